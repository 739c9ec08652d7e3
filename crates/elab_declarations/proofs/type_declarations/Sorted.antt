-- The first name that a group makes twice, told by the names that it made before in each table.
use Rattle.std.proofs.Common.{◌≡◌, Bool, true, false, List, [], ◌∷◌, ◌++◌, map, None, refl, sym, ap, ◌∙◌, append_assoc}
use Rattle.std.specs.Prelude.{◌||◌}
use Rattle.std.specs.Str.{bytes_eq}
use Rattle.std.proofs.lemmas.List.{append-nil}
use Rattle.scopes.specs.declared.Table.{Table}
use Rattle.scopes.specs.declared.Table.TheVariants.{Types, Symbols}
use Rattle.scopes.specs.Names.{ScopeNames}
use Rattle.surface.specs.Lexeme.{Word}
use Rattle.name_resolution.specs.declared.NamingFault.TheVariants.{Duplicate}
use Rattle.name_resolution.specs.Faults.{first_of, fault_if}
use Rattle.elab_groups.specs.parts.Declarations.{TokenName, AlgebraicType, Made, makes, binds_names, words, constructor_names, made_type_names, list_fault, made_before, made_fault}
use Rattle.elab_groups.specs.parts.Outcomes.{declared_in}
use Rattle.elab_groups.proofs.parts.Alike.{both}
use Rattle.elab_declarations.specs.type_declarations.Algebraics.{symbols_made, types_made, group_made}
use Rattle.elab_declarations.proofs.type_declarations.Declared.{is_among, some_step, among_append}
use Rattle.name_resolution.proofs.Told.{three as first_assoc}

swapped : (b q : Bool) → (b || q) ≡ (q || (b || false))
swapped true true = refl
swapped true false = refl
swapped false true = refl
swapped false false = refl

-- the names of a table that were made before
abbrev AreBefore : Table → List Made → List Word → Type 0
AreBefore t before ws = (x : Word) → made_before t x before ≡ is_among x ws

more : (y x : Word) (p : Bool) (ws : List Word) → p ≡ is_among x ws → (bytes_eq y x || p) ≡ is_among x (ws ++ y ∷ [])
more y x p ws h =
    ap (λ (q : Bool). bytes_eq y x || q) h ∙ (swapped (bytes_eq y x) (is_among x ws) ∙ (ap (λ (q : Bool). is_among x ws || q) (sym (some_step (bytes_eq y x) None)) ∙ sym (among_append x ws (y ∷ []))))

-- ---- constructors with their fields
abbrev after : List TokenName → List Made → List Made
after [] before = before
after (c ∷ cs) before = after cs (makes Symbols c ∷ before)

after_types : (cs : List TokenName) (before : List Made) (x : Word) → made_before Types x (after cs before) ≡ made_before Types x before
after_types [] before x = refl
after_types (c ∷ cs) before x = after_types cs (makes Symbols c ∷ before) x

after_symbols : (cs : List TokenName) (before : List Made) (vs : List Word) → AreBefore Symbols before vs → AreBefore Symbols (after cs before) (vs ++ words cs)
after_symbols [] before vs h x = h x ∙ ap (is_among x) (sym (append-nil vs))
after_symbols (c ∷ cs) before vs h x =
    after_symbols cs (makes Symbols c ∷ before) (vs ++ c.name ∷ []) (λ y. more c.name y (made_before Symbols y before) vs (h y)) x ∙ ap (is_among x) (append_assoc vs (c.name ∷ []) (words cs))

module _ (d : Table → Word → Bool) where
  symbols_sorted : (cs : List TokenName) (before : List Made) (vs : List Word) (ms : List Made) → AreBefore Symbols before vs
      → first_of (symbols_made (d Symbols) vs cs) (made_fault d (after cs before) ms) ≡ made_fault d before (map (makes Symbols) cs ++ ms)
  symbols_sorted [] before vs ms h = refl
  symbols_sorted (c ∷ cs) before vs ms h =
      let x = c.name in
      let next = makes Symbols c ∷ before in
      first_assoc (fault_if (d Symbols x || is_among x vs) (Duplicate c.at)) (symbols_made (d Symbols) (vs ++ x ∷ []) cs) (made_fault d (after cs next) ms)
      ∙ both (ap (λ (b : Bool). fault_if (d Symbols x || b) (Duplicate c.at)) (sym (h x))) (symbols_sorted cs next (vs ++ x ∷ []) ms (λ y. more x y (made_before Symbols y before) vs (h y)))

  types_sorted : (ts : List AlgebraicType) (before : List Made) (us vs : List Word) → AreBefore Types before us → AreBefore Symbols before vs → types_made d us vs ts ≡ made_fault d before (made_type_names ts)
  types_sorted [] before us vs h k = refl
  types_sorted (a ∷ ts) before us vs h k =
      let x = a.called.name in
      let cs = constructor_names a.constructors in
      let next = binds_names a.vars ∷ (makes Types a.called ∷ before) in
      let us' = us ++ x ∷ [] in
      let vs' = vs ++ words cs in
      let rest = types_sorted ts (after cs next) us' vs' (λ y. after_types cs next y ∙ more x y (made_before Types y before) us (h y)) (after_symbols cs next vs k) in
      both (ap (λ (b : Bool). fault_if (d Types x || b) (Duplicate a.called.at)) (sym (h x)))
      (ap (first_of (list_fault [] a.vars)) (ap (first_of (symbols_made (d Symbols) vs cs)) rest ∙ symbols_sorted cs next vs (made_type_names ts) k))

pub group_sorted : (names : ScopeNames) (ts : List AlgebraicType) → types_made (declared_in names) [] [] ts ≡ group_made names ts
group_sorted names ts = types_sorted (declared_in names) ts [] [] [] (λ x. refl) (λ x. refl)
