-- What names stand for is found in the same way whatever their types are: each function of names commutes with a map of types.
use Rattle.std.proofs.Common.{◌≡◌, ℕ, suc, zero, Bool, true, false, cond, ◌&&◌, List, [], ◌∷◌, ◌++◌, length, get_or, map, set, Option, Some, None, refl, sym, ap, ◌∙◌}
use Rattle.std.specs.Option.{option_map}
use Rattle.scopes.specs.declared.Table.{Table}
use Rattle.scopes.specs.declared.Table.TheVariants.{Scopes}
use Rattle.scopes.specs.declared.Referent.{Referent}
use Rattle.scopes.specs.declared.Referent.TheVariants as stands
use Rattle.scopes.specs.Names.{EntryOf, NamesOf, number_of, is_named, latest, is_declared, entries_of, or_else, first_found, table_before, find_within, find_name, find_number, innermost, empty_names, with_name, with_entry, with_scope, closed, referent_with, entry_with, names_with}

module _ {A B : Type 0} (f : A → B) where
  number_with : (r : Referent A) → number_of (referent_with f r) ≡ number_of r
  number_with (stands.Entry n) = refl
  number_with (stands.Alias n a) = refl

  pub latest_with : (table : Table) (x : List ℕ) (es : List (EntryOf A)) → latest table x (map (entry_with f) es) ≡ option_map (referent_with f) (latest table x es)
  latest_with table x [] = refl
  latest_with table x (e ∷ es) = of (is_named table x e) (latest_with table x es)
    where
      of : (b : Bool) → latest table x (map (entry_with f) es) ≡ option_map (referent_with f) (latest table x es)
          → cond b (Some (referent_with f e.thing)) (latest table x (map (entry_with f) es)) ≡ option_map (referent_with f) (cond b (Some e.thing) (latest table x es))
      of true h = refl
      of false h = h

  pub declared_with : (table : Table) (x : List ℕ) (es : List (EntryOf A)) → is_declared table x (map (entry_with f) es) ≡ is_declared table x es
  declared_with table x [] = refl
  declared_with table x (e ∷ es) = let more : is_declared table x (map (entry_with f) es) ≡ is_declared table x es = declared_with table x es in cc

  pub got_with : (ess : List (List (EntryOf A))) (k : ℕ) → get_or (map (map (entry_with f)) ess) k [] ≡ map (entry_with f) (get_or ess k [])
  got_with [] k = refl
  got_with (es ∷ ess) zero = refl
  got_with (es ∷ ess) (suc k) = got_with ess k

  else_with : (a b : Option (Referent A)) → or_else (option_map (referent_with f) a) (option_map (referent_with f) b) ≡ option_map (referent_with f) (or_else a b)
  else_with None b = refl
  else_with (Some r) b = refl

  latest_at : (table : Table) (x : List ℕ) (ess : List (List (EntryOf A))) (k : ℕ) → latest table x (get_or (map (map (entry_with f)) ess) k []) ≡ option_map (referent_with f) (latest table x (get_or ess k []))
  latest_at table x ess k = ap (latest table x) (got_with ess k) ∙ latest_with table x (get_or ess k [])

  first_with : (table : Table) (x : List ℕ) (ess : List (List (EntryOf A))) (ks : List ℕ) → first_found table x (map (map (entry_with f)) ess) ks ≡ option_map (referent_with f) (first_found table x ess ks)
  first_with table x ess [] = refl
  first_with table x ess (k ∷ ks) =
      ap (λ (a : Option (Referent B)). or_else a (first_found table x (map (map (entry_with f)) ess) ks)) (latest_at table x ess k)
      ∙ ap (or_else (option_map (referent_with f) (latest table x (get_or ess k [])))) (first_with table x ess ks)
      ∙ else_with (latest table x (get_or ess k [])) (first_found table x ess ks)

  within_with : (ess : List (List (EntryOf A))) (table : Table) (found : Option (Referent A)) (path : List (List ℕ))
      → find_within (map (map (entry_with f)) ess) table (option_map (referent_with f) found) path ≡ option_map (referent_with f) (find_within ess table found path)
  within_with ess table found [] = refl
  within_with ess table None (x ∷ path) = refl
  within_with ess table (Some r) (x ∷ path) =
      let before : Table = table_before table path in
      ap (λ (k : ℕ). find_within (map (map (entry_with f)) ess) table (latest before x (get_or (map (map (entry_with f)) ess) k [])) path) (number_with r)
      ∙ ap (λ (o : Option (Referent B)). find_within (map (map (entry_with f)) ess) table o path) (latest_at before x ess (number_of r))
      ∙ within_with ess table (latest before x (get_or ess (number_of r) [])) path

  pub found_with : (names : NamesOf A) (table : Table) (path : List (List ℕ)) → find_name (names_with f names) table path ≡ option_map (referent_with f) (find_name names table path)
  found_with names table [] = refl
  found_with names table (x ∷ path) =
      let before : Table = table_before table path in
      ap (λ (o : Option (Referent B)). find_within (map (map (entry_with f)) names.entries) table o path) (first_with before x names.entries names.nested)
      ∙ within_with names.entries table (first_found before x names.entries names.nested) path

  numbers_with : (o : Option (Referent A)) → option_map number_of (option_map (referent_with f) o) ≡ option_map number_of o
  numbers_with None = refl
  numbers_with (Some r) = ap Some (number_with r)

  pub number_found_with : (names : NamesOf A) (table : Table) (path : List (List ℕ)) → find_number (names_with f names) table path ≡ find_number names table path
  number_found_with names table path = ap (option_map number_of) (found_with names table path) ∙ numbers_with (find_name names table path)

  -- ---- names that come in, and scopes that are opened and left
  set_with : (ess : List (List (EntryOf A))) (k : ℕ) (es : List (EntryOf A)) → map (map (entry_with f)) (set ess k es) ≡ set (map (map (entry_with f)) ess) k (map (entry_with f) es)
  set_with [] k es = refl
  set_with (x ∷ ess) zero es = refl
  set_with (x ∷ ess) (suc k) es = ap (λ (z : List (List (EntryOf B))). map (entry_with f) x ∷ z) (set_with ess k es)

  pub named_with : (table : Table) (x : List ℕ) (r : Referent A) (d : Bool) (names : NamesOf A) → names_with f (with_name table x r d names) ≡ with_name table x (referent_with f r) d (names_with f names)
  named_with table x r d names =
      let e : EntryOf A = record { table = table; name = x; thing = r; declared = d } in
      let k : ℕ = innermost names in
      let entries : map (map (entry_with f)) (set names.entries k (e ∷ get_or names.entries k [])) ≡ set (map (map (entry_with f)) names.entries) k (entry_with f e ∷ get_or (map (map (entry_with f)) names.entries) k []) =
      set_with names.entries k (e ∷ get_or names.entries k [])
      ∙ ap (λ (z : List (EntryOf B)). set (map (map (entry_with f)) names.entries) k (entry_with f e ∷ z)) (sym (got_with names.entries k)) in
      ap (λ (z : List (List (EntryOf B))). let n : NamesOf B = record { entries = z; nested = names.nested } in n) entries

  length_with : {X Y : Type 0} (g : X → Y) (xs : List X) → length (map g xs) ≡ length xs
  length_with g [] = refl
  length_with g (x ∷ xs) = ap (λ (n : ℕ). suc n) (length_with g xs)

  append_with : {X Y : Type 0} (g : X → Y) (xs ys : List X) → map g (xs ++ ys) ≡ map g xs ++ map g ys
  append_with g [] ys = refl
  append_with {Y = Y} g (x ∷ xs) ys = ap (λ (z : List Y). g x ∷ z) (append_with g xs ys)

  pub opened_with : (x : List ℕ) (d : Bool) (names : NamesOf A) → names_with f (with_scope x d names) ≡ with_scope x d (names_with f names)
  opened_with x d names =
      let n : ℕ = length names.entries in
      let count : length (map (map (entry_with f)) names.entries) ≡ n = length_with (map (entry_with f)) names.entries in
      let named : NamesOf A = with_entry Scopes x n d names in
      let one : names_with f named ≡ with_entry Scopes x n d (names_with f names) = named_with Scopes x (stands.Entry n) d names in
      ap (λ (z : List (List (EntryOf B))). let m : NamesOf B = record { entries = z; nested = n ∷ names.nested } in m)
      (append_with (map (entry_with f)) named.entries ([] ∷ []) ∙ ap (λ (m : NamesOf B). m.entries ++ [] ∷ []) one)
      ∙ ap (λ (k : ℕ). let m : NamesOf B = record { entries = (with_entry Scopes x k d (names_with f names)).entries ++ [] ∷ []; nested = k ∷ names.nested } in m) (sym count)

  pub closed_with : (names : NamesOf A) → names_with f (closed names) ≡ closed (names_with f names)
  closed_with names = refl
