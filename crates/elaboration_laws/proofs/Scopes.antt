-- Over a typed signature and typed scopes names stand for what a well-formed signature asks.
use Rattle.std.proofs.Common.{◌≡◌, ℕ, ◌<◌, zero, suc, Bool, true, false, cond, List, [], ◌∷◌, ◌++◌, length, get_or, slice_get, All, Option, Some, None, IfSome, option_map, IsTrue, codes, refl, sym, ap, subst, ◌∙◌, arith}
use Rattle.std.specs.Str.{bytes_eq}
use Rattle.std.specs.List.{AllByRecursion}
use Rattle.std.proofs.lemmas.List.Elements.{recursion_from_All, All-from_recursion, All-nil, All-cons, All-set}
use Rattle.elab_groups.specs.trees.Tree.{Tree}
use Rattle.elab_groups.specs.tasks.Task.{SymbolTree, symbol_or, int_symbol}
use Rattle.elab_groups.specs.tasks.Vocabulary.{Vocabulary}
use Rattle.elab_groups.specs.scopes.declared.Table.{Table}
use Rattle.elab_groups.specs.scopes.declared.Table.TheVariants.{Types, Symbols}
use Rattle.elab_groups.specs.scopes.Names.{EntryOf, number_of, same_table, is_named, latest, entries_of, or_else, first_found, table_before, find_within, find_name, innermost, empty_names, with_name}
use Rattle.elab_groups.specs.scopes.declared.Referent.TheVariants as stands
use Rattle.elab_groups.specs.surface.Lexeme.{Word}
use Rattle.elab_groups.specs.name_resolution.Naming.{or_int, type_named}
use Rattle.elab_groups.specs.name_resolution.Where.{MeaningTree, NamesTree}
use Rattle.elab_groups.specs.parts.Outcomes.{over}
use Rattle.elab_groups.specs.name_resolution.Records.{constructor_before}
use Rattle.elab_groups.proofs.parts.RecordsKept.{before_below}
use Rattle.elab_groups.specs.tasks.declared.signature.SymbolKind.TheVariants.{Kind, Constructor}
use Rattle.elaboration_laws.specs.Signature.{with_entries, IsSymbol, IsMeaning, IsWellFormed}
use Rattle.elaboration_laws.specs.Scopes.{IsTypedEntry, IsTypedSignature, IsTypeNumber, IsSymbolNumber, IsTypeName, IsNameOfSymbol, IsTypedThing, AreTypedScopes}
use Rattle.elab_groups.proofs.scopes.Listed.{same_table_is as same_is}
use Rattle.elab_groups.proofs.plain_laws.Bools.{and_both as both_true}
use Rattle.std.proofs.lemmas.Option.{slice_get-get_or as some_at}

-- ---- what is found is the thing of an entry
module _ (P : Table → MeaningTree → Type 0) where
  abbrev IsEntry : EntryOf Tree → Type 0
  IsEntry e = P e.table e.thing

  latest_step : (table : Table) (x : Word) (e : EntryOf Tree) (m : Option MeaningTree) (b : Bool) → is_named table x e ≡ b → IsEntry e → IfSome m (P table) → IfSome (cond b (Some e.thing) m) (P table)
  latest_step table x e m true q h k = subst (λ (t : Table). P t e.thing) (sym (same_is table e.table (both_true (same_table table e.table) (bytes_eq e.name x) q).0)) h
  latest_step table x e m false q h k = k

  latest_thing : (table : Table) (x : Word) (es : List (EntryOf Tree)) → AllByRecursion IsEntry es → IfSome (latest table x es) (P table)
  latest_thing table x [] h = tt
  latest_thing table x (e ∷ es) h = latest_step table x e (latest table x es) (is_named table x e) refl h.0 (latest_thing table x es h.1)

  pub at_scope : (ess : List (List (EntryOf Tree))) → AllByRecursion (λ (es : List (EntryOf Tree)). All IsEntry es) ess → (k : ℕ) → AllByRecursion IsEntry (get_or ess k [])
  at_scope [] h k = tt
  at_scope (es ∷ ess) h zero = recursion_from_All IsEntry es h.0
  at_scope (es ∷ ess) h (suc k) = at_scope ess h.1 k

  module _ (ess : List (List (EntryOf Tree))) (h : AllByRecursion (λ (es : List (EntryOf Tree)). All IsEntry es) ess) where
    within_thing : (table : Table) (names : List Word) (found : Option MeaningTree) → IfSome found (P (table_before table names)) → IfSome (find_within ess table found names) (P table)
    within_thing table [] found k = k
    within_thing table (x ∷ names) None k = tt
    within_thing table (x ∷ names) (Some thing) k = within_thing table names (latest (table_before table names) x (get_or ess (number_of thing) [])) (latest_thing (table_before table names) x (get_or ess (number_of thing) []) (at_scope ess h (number_of thing)))

    or_thing : (table : Table) (a b : Option MeaningTree) → IfSome a (P table) → IfSome b (P table) → IfSome (or_else a b) (P table)
    or_thing table None b h k = k
    or_thing table (Some thing) b h k = h

    first_thing : (table : Table) (x : Word) (numbers : List ℕ) → IfSome (first_found table x ess numbers) (P table)
    first_thing table x [] = tt
    first_thing table x (k ∷ ks) = or_thing table (latest table x (get_or ess k [])) (first_found table x ess ks) (latest_thing table x (get_or ess k []) (at_scope ess h k)) (first_thing table x ks)

  pub found_thing : (names : NamesTree) → All (λ (es : List (EntryOf Tree)). All IsEntry es) names.entries → (table : Table) (path : List Word) → IfSome (find_name names table path) (P table)
  found_thing names h table [] = tt
  found_thing names h table (x ∷ path) =
      let k = recursion_from_All (λ (es : List (EntryOf Tree)). All IsEntry es) names.entries h in
      within_thing names.entries k table path (first_found (table_before table path) x names.entries names.nested) (first_thing names.entries k (table_before table path) x names.nested)

  -- a further name
  pub scopes_more : (names : NamesTree) (table : Table) (x : Word) (t : MeaningTree) (d : Bool) → P table t → All (λ (es : List (EntryOf Tree)). All IsEntry es) names.entries → All (λ (es : List (EntryOf Tree)). All IsEntry es) (with_name table x t d names).entries
  scopes_more names table x t d h k =
      let old = at_scope names.entries (recursion_from_All (λ (es : List (EntryOf Tree)). All IsEntry es) names.entries k) (innermost names) in
      let e : EntryOf Tree = record { table = table; name = x; thing = t; declared = d } in
      All-set (λ (es : List (EntryOf Tree)). All IsEntry es) names.entries (innermost names) (e ∷ entries_of names (innermost names)) (All-cons IsEntry e (entries_of names (innermost names)) h (All-from_recursion IsEntry (entries_of names (innermost names)) old)) k

-- ---- a scope without names is typed
pub no_names : (v : Vocabulary) → AreTypedScopes v empty_names
no_names v = let P : EntryOf Tree → Type 0 = λ e. IsTypedThing v e.table e.thing in All-cons (All P) [] [] (All-nil P) (All-nil (All P))

-- ---- names of types
abbrev pub OnTypes : Vocabulary → Table → MeaningTree → Type 0
OnTypes v Types t = IsTypeName v t
OnTypes v _ t = Unit {0}

on_types : (v : Vocabulary) (table : Table) (t : MeaningTree) → IsTypedThing v table t → OnTypes v table t
on_types v Types t h = h
on_types v _ t h = tt

pub types_alone : (v : Vocabulary) (names : NamesTree) → AreTypedScopes v names → All (λ (es : List (EntryOf Tree)). All (λ (e : EntryOf Tree). OnTypes v e.table e.thing) es) names.entries
types_alone v names h = λ k es i. λ j e x. on_types v (get_or (get_or names.entries k es) j e).table (get_or (get_or names.entries k es) j e).thing (h k es i j e x)

-- ---- over a typed signature
module _ (base : Vocabulary) (symbols : List SymbolTree) (sig : IsTypedSignature base symbols) where
  abbrev v : Vocabulary
  v = with_entries base symbols

  first_there : (es : List SymbolTree) → slice_get es 0 ≡ Some int_symbol → 0 < length es
  first_there [] h = absurd (cc)
  first_there (e ∷ es) h = omega arith

  first_is : (es : List SymbolTree) → slice_get es 0 ≡ Some int_symbol → symbol_or es 0 ≡ int_symbol
  first_is [] h = absurd (cc)
  first_is (e ∷ es) h = cc

  pub int_number : IsTypeNumber v 0
  int_number = record { there = first_there symbols sig.int; usable = sig.int_usable; kind = ap (λ (e : SymbolTree). e.kind) (first_is symbols sig.int) }

  pub typed_entry : (k : ℕ) → k < length symbols → IsTrue (base.usable k) → IsTypedEntry v (symbol_or symbols k)
  typed_entry k l u = sig.entries k (symbol_or symbols k) (some_at symbols k int_symbol l) u

  number_symbol : (k : ℕ) → IsSymbolNumber v k → IsSymbol v k
  number_symbol k h = record { usable = h.usable; signature = record { entry = h.there; kind = h.kind; types = (typed_entry k h.there h.usable).types }; result = (typed_entry k h.there h.usable).result }

  meaning : (m : Option MeaningTree) → IfSome m (IsTypeName v) → IfSome m (IsMeaning v)
  meaning None h = tt
  meaning (Some (stands.Entry k)) h = (h.usable, record { entry = h.there; kind = h.kind; types = (typed_entry k h.there h.usable).types })
  meaning (Some (stands.Alias vars t)) h = h

  or_int_name : (qs : List Word) (x : Word) (m : Option MeaningTree) → IfSome m (IsTypeName v) → IfSome (or_int qs x m) (IsTypeName v)
  or_int_name [] x None h = of (bytes_eq x (codes "int"))
    where
      of : (b : Bool) → IfSome (cond b (Some (stands.Entry 0)) None) (IsTypeName v)
      of true = int_number
      of false = tt
  or_int_name [] x (Some t) h = h
  or_int_name (q ∷ qs) x m h = h

  symbol : (m : Option MeaningTree) → IfSome m (IsNameOfSymbol v) → IfSome (option_map number_of m) (IsSymbol v)
  symbol None h = tt
  symbol (Some (stands.Entry k)) h = number_symbol k h
  symbol (Some (stands.Alias vars t)) h = absurd h

  -- where the names of types alone are typed
  pub types_meant : (names : NamesTree) → All (λ (es : List (EntryOf Tree)). All (λ (e : EntryOf Tree). OnTypes v e.table e.thing) es) names.entries → (qs : List Word) (x : Word) → IfSome (type_named names qs x) (IsMeaning v)
  types_meant names h qs x = meaning (type_named names qs x) (or_int_name qs x (find_name names Types (qs ++ x ∷ [])) (found_thing (OnTypes v) names h Types (qs ++ x ∷ [])))

  pub over_well_formed : (names : NamesTree) → AreTypedScopes v names → (vars : List Word) → IsWellFormed base (over symbols names vars)
  over_well_formed names scopes vars = record {
    int = sig.int;
    int_usable = sig.int_usable;
    types = types_meant names (types_alone v names scopes);
    names = λ qs x. symbol (find_name names Symbols (qs ++ x ∷ [])) (found_thing (IsTypedThing v) names scopes Symbols (qs ++ x ∷ []));
    constructors = λ k z q. sig.constructors k (symbol_or symbols k) (some_at symbols k int_symbol z.signature.entry) z.usable q;
    records = λ k z q. number_symbol (constructor_before symbols k) (record {
      there = let l = before_below symbols k in let m = z.signature.entry in omega (arith, l, m);
      usable = sig.records k z.signature.entry z.usable q;
      kind = λ e. let n : Kind ≡ Constructor = sym e ∙ q in absurd (cc (n));
    });
  }
