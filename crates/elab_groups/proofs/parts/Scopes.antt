-- What names of well-kept scopes stand for.
use Rattle.std.proofs.Common.{◌≡◌, ℕ, ◌+◌, ◌<◌, ◌≤◌, ◌==◌, Bool, true, false, cond, List, [], ◌∷◌, ◌++◌, length, get_or, slice_get, set, zero, suc, Option, Some, None, IfSome, option_map, refl, sym, ap, subst, ◌∙◌, arith}
use Rattle.std.specs.Prelude.{◌&&◌, codes}
use Rattle.std.specs.Str.{bytes_eq}
use Rattle.std.specs.List.{All, AllByRecursion}
use Rattle.std.proofs.lemmas.List.Elements.{recursion_from_All, All-from_recursion, All-cons, All-set}
use Rattle.std.proofs.Math.ListN.{get_or-append}
use Rattle.std.proofs.lemmas.Bool.{eqb-true}
use Rattle.tasks.specs.trees.Tree.{Tree}
use Rattle.tasks.specs.trees.Node.{Grows}
use Rattle.tasks.specs.Task.{SymbolTree, symbol_or, int_symbol}
use Rattle.tasks.specs.Vocabulary.{is_constructor_kind}
use Rattle.scopes.specs.declared.Table.{Table}
use Rattle.scopes.specs.declared.Table.TheVariants.{Types, Symbols, Propositions, Scopes}
use Rattle.scopes.specs.Names.{EntryOf, NamesOf, TypeName, ScopeNames, ScopeEntry, number_of, same_table, is_named, latest, entries_of, or_else, first_found, table_before, find_within, find_name, innermost, with_name}
use Rattle.scopes.specs.declared.Referent.{Referent}
use Rattle.scopes.specs.declared.Referent.TheVariants as stands
use Rattle.surface.specs.Lexeme.{Word}
use Rattle.name_resolution.specs.Naming.{or_int, type_named, symbol_named, meaning_at, scope_at}
use Rattle.name_resolution.specs.Where.{MeaningTree, NamesTree}
use Rattle.name_resolution.proofs.ScopeAt.{type_named_at, symbol_named_at}
use Rattle.open_types.specs.Patterns.{entry_of}
use Rattle.open_types.specs.Scoped.{IsScopedMeaning}
use Rattle.open_types.specs.Drafts.{MeaningHeld}
use Rattle.open_types.proofs.Growing.{type_grows, type_stays}
use Rattle.tasks.specs.trees.Facts.{TyVarsBelow}
use Rattle.elab_groups.specs.parts.Alike.{meaning_arity, shape, record_shape, AreScopesAlike}
use Rattle.elab_groups.specs.parts.Entries.{IsTypeNameMeaning, IsThing, IsEntry, AreScopes, builtin, is_tuple, tuple_from, tuple_in}
use Rattle.elab_groups.specs.parts.Outcomes.{over}
use Rattle.elab_groups.proofs.parts.RecordsKept.{record_kept, records_kept}
use Rattle.tasks.proofs.plain_laws.Bools.{and_first as and_left, and_second as and_right}
use Rattle.scopes.proofs.Listed.{same_table_is as same_is}

-- ---- what is found is the thing of an entry
module _ (s : List Tree) (n : ℕ) where
  latest_step : (table : Table) (x : Word) (e : ScopeEntry) (m : Option TypeName) (b : Bool) → is_named table x e ≡ b → IsEntry s n e → IfSome m (IsThing s n table) → IfSome (cond b (Some e.thing) m) (IsThing s n table)
  latest_step table x e m true q h k = subst (λ (t : Table). IsThing s n t e.thing) (sym (same_is table e.table (and_left (same_table table e.table) (bytes_eq e.name x) q))) h
  latest_step table x e m false q h k = k

  latest_thing : (table : Table) (x : Word) (es : List ScopeEntry) → AllByRecursion (IsEntry s n) es → IfSome (latest table x es) (IsThing s n table)
  latest_thing table x [] h = tt
  latest_thing table x (e ∷ es) h = latest_step table x e (latest table x es) (is_named table x e) refl h.0 (latest_thing table x es h.1)

  at_scope : (ess : List (List ScopeEntry)) → AllByRecursion (λ (es : List ScopeEntry). All (IsEntry s n) es) ess → (k : ℕ) → AllByRecursion (IsEntry s n) (get_or ess k [])
  at_scope [] h k = tt
  at_scope (es ∷ ess) h zero = recursion_from_All (IsEntry s n) es h.0
  at_scope (es ∷ ess) h (suc k) = at_scope ess h.1 k

  module _ (ess : List (List ScopeEntry)) (h : AllByRecursion (λ (es : List ScopeEntry). All (IsEntry s n) es) ess) where
    within_thing : (table : Table) (names : List Word) (found : Option TypeName) → IfSome found (IsThing s n (table_before table names)) → IfSome (find_within ess table found names) (IsThing s n table)
    within_thing table [] found k = k
    within_thing table (x ∷ names) None k = tt
    within_thing table (x ∷ names) (Some thing) k = within_thing table names (latest (table_before table names) x (get_or ess (number_of thing) [])) (latest_thing (table_before table names) x (get_or ess (number_of thing) []) (at_scope ess h (number_of thing)))

    or_thing : (table : Table) (a b : Option TypeName) → IfSome a (IsThing s n table) → IfSome b (IsThing s n table) → IfSome (or_else a b) (IsThing s n table)
    or_thing table None b h k = k
    or_thing table (Some thing) b h k = h

    first_thing : (table : Table) (x : Word) (numbers : List ℕ) → IfSome (first_found table x ess numbers) (IsThing s n table)
    first_thing table x [] = tt
    first_thing table x (k ∷ ks) = or_thing table (latest table x (get_or ess k [])) (first_found table x ess ks) (latest_thing table x (get_or ess k []) (at_scope ess h k)) (first_thing table x ks)

  pub found_thing : (names : ScopeNames) → AreScopes s n names → (table : Table) (path : List Word) → IfSome (find_name names table path) (IsThing s n table)
  found_thing names h table [] = tt
  found_thing names h table (x ∷ path) =
      let k = recursion_from_All (λ (es : List ScopeEntry). All (IsEntry s n) es) names.entries h in
      within_thing names.entries k table path (first_found (table_before table path) x names.entries names.nested) (first_thing names.entries k (table_before table path) x names.nested)

  or_int_thing : (qs : List Word) (x : Word) (m : Option TypeName) → 0 < n → IfSome m (IsTypeNameMeaning s n) → IfSome (or_int qs x m) (IsTypeNameMeaning s n)
  or_int_thing [] x None p h = at (bytes_eq x (codes "int"))
    where
      at : (b : Bool) → IfSome (cond b (Some (stands.Entry 0)) None) (IsTypeNameMeaning s n)
      at true = p
      at false = tt
  or_int_thing [] x (Some t) p h = h
  or_int_thing (q ∷ qs) x m p h = h

  pub type_thing : (names : ScopeNames) → AreScopes s n names → 0 < n → (qs : List Word) (x : Word) → IfSome (type_named names qs x) (IsTypeNameMeaning s n)
  type_thing names h p qs x = or_int_thing qs x (find_name names Types (qs ++ x ∷ [])) p (found_thing names h Types (qs ++ x ∷ []))

  number_below : (m : Option TypeName) → IfSome m (IsThing s n Symbols) → IfSome (option_map number_of m) (λ (k : ℕ). k < n)
  number_below None h = tt
  number_below (Some (stands.Entry k)) h = h
  number_below (Some (stands.Alias vars ty)) h = absurd h

  pub symbol_below : (names : ScopeNames) → AreScopes s n names → (qs : List Word) (x : Word) → IfSome (symbol_named names qs x) (λ (k : ℕ). k < n)
  symbol_below names h qs x = number_below (find_name names Symbols (qs ++ x ∷ [])) (found_thing names h Symbols (qs ++ x ∷ []))

  pub meaning_held : (m : Option TypeName) → IfSome m (IsTypeNameMeaning s n) → IfSome m (MeaningHeld s)
  meaning_held None h = tt
  meaning_held (Some (stands.Entry k)) h = tt
  meaning_held (Some (stands.Alias vars ty)) h = h.0

  meaning_scoped : (m : Option TypeName) → IfSome m (IsTypeNameMeaning s n) → IfSome (option_map (meaning_at s) m) IsScopedMeaning
  meaning_scoped None h = tt
  meaning_scoped (Some (stands.Entry k)) h = tt
  meaning_scoped (Some (stands.Alias vars ty)) h = h.1

  pub scoped_at : (names : ScopeNames) → AreScopes s n names → 0 < n → (qs : List Word) (x : Word) → IfSome (type_named (scope_at s names) qs x) IsScopedMeaning
  scoped_at names h p qs x = subst (λ (m : Option MeaningTree). IfSome m IsScopedMeaning) (sym (type_named_at s names qs x)) (meaning_scoped (type_named names qs x) (type_thing names h p qs x))

-- ---- further names
module _ (s s' : List Tree) (g : Grows s s') (m n : ℕ) (l : m ≤ n) where
  meaning_on : (t : TypeName) → IsTypeNameMeaning s m t → IsTypeNameMeaning s' n t
  meaning_on (stands.Entry k) h = omega arith
  meaning_on (stands.Alias vars ty) h = (type_grows s s' g (record { 0 = ty }) h.0, subst (TyVarsBelow vars) (sym (type_stays s s' g (record { 0 = ty }) h.0)) h.1)

  thing_on : (table : Table) (t : TypeName) → IsThing s m table t → IsThing s' n table t
  thing_on Types t h = meaning_on t h
  thing_on Symbols (stands.Entry k) h = omega arith
  thing_on Symbols (stands.Alias vars ty) h = absurd h
  thing_on Propositions t h = h
  thing_on Scopes t h = h

  pub scopes_grow : (names : ScopeNames) → AreScopes s m names → AreScopes s' n names
  scopes_grow names h = λ k es i. λ j e x. thing_on (get_or (get_or names.entries k es) j e).table (get_or (get_or names.entries k es) j e).thing (h k es i j e x)

pub scopes_more : (s : List Tree) (n : ℕ) (names : ScopeNames) (table : Table) (x : Word) (t : TypeName) (d : Bool) → IsThing s n table t → AreScopes s n names → AreScopes s n (with_name table x t d names)
scopes_more s n names table x t d h k =
    let old = at_scope s n names.entries (recursion_from_All (λ (es : List ScopeEntry). All (IsEntry s n) es) names.entries k) (innermost names) in
    let e : ScopeEntry = record { table = table; name = x; thing = t; declared = d } in
    All-set (λ (es : List ScopeEntry). All (IsEntry s n) es) names.entries (innermost names) (e ∷ entries_of names (innermost names)) (All-cons (IsEntry s n) e (entries_of names (innermost names)) h (All-from_recursion (IsEntry s n) (entries_of names (innermost names)) old)) k

-- ---- a name hides those of its own table alone
module _ {A : Type 0} (table : Table) (x : Word) (e : EntryOf A) (h : (es : List (EntryOf A)) → latest table x (e ∷ es) ≡ latest table x es) where
  latest_kept : (ess : List (List (EntryOf A))) (k j : ℕ) → latest table x (get_or (set ess k (e ∷ get_or ess k [])) j []) ≡ latest table x (get_or ess j [])
  latest_kept [] k j = refl
  latest_kept (es ∷ ess) zero zero = h es
  latest_kept (es ∷ ess) zero (suc j) = refl
  latest_kept (es ∷ ess) (suc k) zero = refl
  latest_kept (es ∷ ess) (suc k) (suc j) = latest_kept ess k j

module _ {A : Type 0} (hidden : Table) (no_scope : same_table Scopes hidden ≡ false) (x : Word) (t : Referent A) (d : Bool) (names : NamesOf A) where
  abbrev e : EntryOf A
  e = record { table = hidden; name = x; thing = t; declared = d }

  abbrev more : List (List (EntryOf A))
  more = set names.entries (innermost names) (e ∷ entries_of names (innermost names))

  skipped : (table : Table) → same_table table hidden ≡ false → (y : Word) (es : List (EntryOf A)) → latest table y (e ∷ es) ≡ latest table y es
  skipped table h y es = ap (λ (b : Bool). cond (b && bytes_eq x y) (Some t) (latest table y es)) h

  unheard : (table : Table) → same_table table hidden ≡ false → (y : Word) (j : ℕ) → latest table y (get_or more j []) ≡ latest table y (get_or names.entries j [])
  unheard table h y j = latest_kept table y e (skipped table h y) names.entries (innermost names) j

  other_before : (table : Table) → same_table table hidden ≡ false → (path : List Word) → same_table (table_before table path) hidden ≡ false
  other_before table h [] = h
  other_before table h (y ∷ path) = no_scope

  within_kept : (table : Table) → same_table table hidden ≡ false → (path : List Word) (found : Option (Referent A)) → find_within more table found path ≡ find_within names.entries table found path
  within_kept table h [] found = refl
  within_kept table h (y ∷ path) None = refl
  within_kept table h (y ∷ path) (Some u) =
      within_kept table h path (latest (table_before table path) y (get_or more (number_of u) [])) ∙ ap (λ (f : Option (Referent A)). find_within names.entries table f path) (unheard (table_before table path) (other_before table h path) y (number_of u))

  first_kept : (table : Table) → same_table table hidden ≡ false → (y : Word) (ks : List ℕ) → first_found table y more ks ≡ first_found table y names.entries ks
  first_kept table h y [] = refl
  first_kept table h y (k ∷ ks) = cc (unheard table h y k, first_kept table h y ks)

  found_kept : (table : Table) → same_table table hidden ≡ false → (path : List Word) → find_name (with_name hidden x t d names) table path ≡ find_name names table path
  found_kept table h [] = refl
  found_kept table h (y ∷ path) =
      within_kept table h path (first_found (table_before table path) y more names.nested) ∙ ap (λ (f : Option (Referent A)). find_within names.entries table f path) (first_kept (table_before table path) (other_before table h path) y names.nested)

  pub types_past : same_table Types hidden ≡ false → (qs : List Word) (y : Word) → type_named (with_name hidden x t d names) qs y ≡ type_named names qs y
  types_past h qs y = ap (or_int qs y) (found_kept Types h (qs ++ y ∷ []))

  pub symbols_past : same_table Symbols hidden ≡ false → (qs : List Word) (y : Word) → symbol_named (with_name hidden x t d names) qs y ≡ symbol_named names qs y
  symbols_past h qs y = ap (option_map number_of) (found_kept Symbols h (qs ++ y ∷ []))

-- ---- further entries
module _ (s : List Tree) (symbols more : List SymbolTree) where
  arity_on : (m : Option TypeName) → IfSome m (IsTypeNameMeaning s (length symbols)) → option_map (meaning_arity symbols) (option_map (meaning_at s) m) ≡ option_map (meaning_arity (symbols ++ more)) (option_map (meaning_at s) m)
  arity_on None h = refl
  arity_on (Some (stands.Entry k)) h = ap (λ (e : SymbolTree). Some e.vars) (sym (get_or-append symbols more int_symbol k h))
  arity_on (Some (stands.Alias vars ty)) h = refl

  pub arity_kept : (names : ScopeNames) → AreScopes s (length symbols) names → 0 < length symbols → (qs : List Word) (x : Word)
      → option_map (meaning_arity symbols) (type_named (scope_at s names) qs x) ≡ option_map (meaning_arity (symbols ++ more)) (type_named (scope_at s names) qs x)
  arity_kept names h p qs x =
      subst (λ (m : Option MeaningTree). option_map (meaning_arity symbols) m ≡ option_map (meaning_arity (symbols ++ more)) m) (sym (type_named_at s names qs x))
      (arity_on (type_named names qs x) (type_thing s (length symbols) names h p qs x))

  shape_kept : (m : Option ℕ) → IfSome m (λ (k : ℕ). k < length symbols) → option_map (shape symbols) m ≡ option_map (shape (symbols ++ more)) m
  shape_kept None h = refl
  shape_kept (Some k) h = let q : get_or symbols k int_symbol ≡ get_or (symbols ++ more) k int_symbol = sym (get_or-append symbols more int_symbol k h) in cc

  -- in scopes whose further names are in other tables
  pub alike_more : (names : ScopeNames) (names' : NamesTree) (vars : List Word) → AreScopes s (length symbols) names → 0 < length symbols
      → ((qs : List Word) (x : Word) → type_named names' qs x ≡ type_named (scope_at s names) qs x) → ((qs : List Word) (x : Word) → symbol_named names' qs x ≡ symbol_named (scope_at s names) qs x)
      → AreScopesAlike (over symbols (scope_at s names) vars) (over (symbols ++ more) names' vars)
  alike_more names names' vars h p types syms = record {
    forms = record {
      types = λ qs x. arity_kept names h p qs x ∙ ap (option_map (meaning_arity (symbols ++ more))) (sym (types qs x));
      vars = refl;
    };
    names = λ qs x. ap (option_map (shape symbols)) (symbol_named_at s names qs x)
        ∙ (shape_kept (symbol_named names qs x) (symbol_below s (length symbols) names h qs x)
        ∙ ap (option_map (shape (symbols ++ more))) (sym (syms qs x ∙ symbol_named_at s names qs x)));
    records = λ qs x. ap (option_map (record_shape symbols)) (symbol_named_at s names qs x)
        ∙ (records_kept symbols more (symbol_named names qs x) (symbol_below s (length symbols) names h qs x)
        ∙ ap (option_map (record_shape (symbols ++ more))) (sym (syms qs x ∙ symbol_named_at s names qs x)));
    first = record_kept symbols more 0 p;
  }

-- ---- tuples
tuple_is : (n : ℕ) (e : SymbolTree) → is_tuple n e ≡ true → e.vars ≡ n
tuple_is n e h =
    let a = and_right (is_constructor_kind e.kind) (bytes_eq e.theory builtin && (e.vars == n && length e.args == n)) h in
    let b = and_right (bytes_eq e.theory builtin) (e.vars == n && length e.args == n) a in
    eqb-true e.vars n (and_left (e.vars == n) (length e.args == n) b)

-- the constructor of tuples of a width has at most so many type variables
module _ (n : ℕ) where
  tuple_step : (e : SymbolTree) (all : List SymbolTree) (k : ℕ) (m : Option ℕ) (b : Bool) → is_tuple n e ≡ b → symbol_or all k ≡ e → (entry_of all m).symbol.vars ≤ n → (entry_of all (cond b (Some k) m)).symbol.vars ≤ n
  tuple_step e all k m true q r h = let z : (symbol_or all k).vars ≡ n = ap (λ (i : SymbolTree). i.vars) r ∙ tuple_is n e q in omega arith
  tuple_step e all k m false q r h = h

  tuple_below : (es all : List SymbolTree) (k : ℕ) → ((j : ℕ) → symbol_or all (k + j) ≡ symbol_or es j) → (symbol_or all 0).vars ≡ 0 → (entry_of all (tuple_from n k es)).symbol.vars ≤ n
  tuple_below [] all k h z = omega arith
  tuple_below (e ∷ es) all k h z =
      tuple_step e all k (tuple_from n (suc k) es) (is_tuple n e) refl (let q : k ≡ k + 0 = omega arith in ap (symbol_or all) q ∙ h 0)
      (tuple_below es all (suc k) (λ j. let q : suc k + j ≡ k + suc j = omega arith in ap (symbol_or all) q ∙ h (suc j)) z)

pub tuples_below : (symbols : List SymbolTree) → slice_get symbols 0 ≡ Some int_symbol → (n : ℕ) → (entry_of symbols (tuple_in symbols n)).symbol.vars ≤ n
tuples_below [] h n = absurd (cc)
tuples_below (e ∷ es) h n = let q : e ≡ int_symbol = cc in tuple_below n (e ∷ es) (e ∷ es) 0 (λ j. let k : 0 + j ≡ j = omega arith in ap (symbol_or (e ∷ es)) k) (ap (λ (i : SymbolTree). i.vars) q)
