-- What names mean over a signature, where a store grows.
use Rattle.std.proofs.Common.{◌≡◌, ℕ, ◌<◌, List, [], ◌∷◌, map, length, Option, IfSome, option_map, refl, sym, ap, subst, ◌∙◌, arith}
use Rattle.std.specs.List.{All, AllByRecursion}
use Rattle.std.proofs.lemmas.List.Elements.{recursion_from_All}
use Rattle.tasks.specs.trees.Tree.{Tree}
use Rattle.tasks.specs.trees.Node.{Grows}
use Rattle.tasks.specs.Task.{SymbolTree}
use Rattle.tasks.specs.Meaning.{symbols_at}
use Rattle.tasks.specs.declared.signature.SymbolInfo.{SymbolInfo}
use Rattle.scopes.specs.Names.{EntryOf, ScopeNames, ScopeEntry, TypeName, entry_with}
use Rattle.scopes.specs.declared.Table.{Table}
use Rattle.scopes.specs.declared.Table.TheVariants.{Types, Symbols, Propositions, Scopes}
use Rattle.scopes.specs.declared.Referent.TheVariants as stands
use Rattle.surface.specs.Lexeme.{Word}
use Rattle.name_resolution.specs.Naming.{type_tree_at, meaning_at, scope_at, type_named, where_at, symbol_named}
use Rattle.name_resolution.specs.Where.{Where, MeaningTree, NamesTree}
use Rattle.name_resolution.proofs.ScopeAt.{type_named_at, symbol_named_at}
use Rattle.name_resolution.specs.declared.world.World.{World}
use Rattle.open_types.specs.Scoped.{IsScoped}
use Rattle.open_types.specs.Drafts.{WorldHeld, MeaningHeld}
use Rattle.open_types.proofs.Growing.{type_stays}
use Rattle.elab_groups.specs.parts.Entries.{IsThing, IsEntry, IsSignature, AreScopes, tuple_in}
use Rattle.elab_groups.specs.parts.Outcomes.{over}
use Rattle.elab_groups.proofs.parts.Scopes.{type_thing, meaning_held, scoped_at, tuples_below}

-- the signature has an entry
pub some_entry : (s : List Tree) (is : List SymbolInfo) → IsSignature s is → 0 < length is
some_entry s [] h = absurd (cc (h.int))
some_entry s (i ∷ is) h = omega arith

module _ (s s' : List Tree) (g : Grows s s') (n : ℕ) where
  thing_stays : (table : Table) (t : TypeName) → IsThing s n table t → meaning_at s' t ≡ meaning_at s t
  thing_stays table (stands.Entry k) h = refl
  thing_stays Types (stands.Alias vars ty) h = ap (stands.Alias vars) (type_stays s s' g (record { 0 = ty }) h.0)
  thing_stays Symbols (stands.Alias vars ty) h = absurd h
  thing_stays Propositions (stands.Alias vars ty) h = absurd h
  thing_stays Scopes (stands.Alias vars ty) h = absurd h

  entries_stay : (es : List ScopeEntry) → AllByRecursion (IsEntry s n) es → map (entry_with (type_tree_at s')) es ≡ map (entry_with (type_tree_at s)) es
  entries_stay [] h = refl
  entries_stay (e ∷ es) h =
      let put : MeaningTree → List (EntryOf Tree) → List (EntryOf Tree) = λ t zs. record { table = e.table; name = e.name; thing = t; declared = e.declared } ∷ zs in
      ap (λ (t : MeaningTree). put t (map (entry_with (type_tree_at s')) es)) (thing_stays e.table e.thing h.0) ∙ ap (put (meaning_at s e.thing)) (entries_stay es h.1)

  scopes_stay : (ess : List (List ScopeEntry)) → AllByRecursion (λ (es : List ScopeEntry). All (IsEntry s n) es) ess
      → map (map (entry_with (type_tree_at s'))) ess ≡ map (map (entry_with (type_tree_at s))) ess
  scopes_stay [] h = refl
  scopes_stay (es ∷ ess) h =
      ap (λ (zs : List (EntryOf Tree)). zs ∷ map (map (entry_with (type_tree_at s'))) ess) (entries_stay es (recursion_from_All (IsEntry s n) es h.0))
      ∙ ap (λ (zs : List (List (EntryOf Tree))). map (entry_with (type_tree_at s)) es ∷ zs) (scopes_stay ess h.1)

  pub scope_stays : (names : ScopeNames) → AreScopes s n names → scope_at s' names ≡ scope_at s names
  scope_stays names h =
      ap (λ (ess : List (List (EntryOf Tree))). let ns : NamesTree = record { entries = ess; nested = names.nested } in ns)
      (scopes_stay names.entries (recursion_from_All (λ (es : List ScopeEntry). All (IsEntry s n) es) names.entries h))

  pub over_stays : (symbols : List SymbolTree) (names : ScopeNames) (vars : List Word) → AreScopes s n names → over symbols (scope_at s' names) vars ≡ over symbols (scope_at s names) vars
  over_stays symbols names vars h = ap (λ (ns : NamesTree). over symbols ns vars) (scope_stays names h)

-- ---- the world of a signature
abbrev meant : List Tree → List SymbolInfo → ScopeNames → List Word → Where
meant s is names vars = record { symbols = symbols_at s is; types = λ qs x. option_map (meaning_at s) (type_named names qs x); names = symbol_named names; tuples = tuple_in (symbols_at s is); vars = vars }

-- it is what the names mean in the scopes of definitions
meant_is : (s : List Tree) (is : List SymbolInfo) (names : ScopeNames) (vars : List Word) → meant s is names vars ≡ over (symbols_at s is) (scope_at s names) vars
meant_is s is names vars =
    let types : type_named (scope_at s names) ≡ (λ qs x. option_map (meaning_at s) (type_named names qs x)) = λ i. λ qs x. type_named_at s names qs x i in
    let heard : symbol_named (scope_at s names) ≡ symbol_named names = λ i. λ qs x. symbol_named_at s names qs x i in
    sym (ap (λ (f : List Word → Word → Option MeaningTree). record { symbols = symbols_at s is; types = f; names = symbol_named (scope_at s names); tuples = tuple_in (symbols_at s is); vars = vars }) types
    ∙ ap (λ (f : List Word → Word → Option ℕ). record { symbols = symbols_at s is; types = (λ qs x. option_map (meaning_at s) (type_named names qs x)); names = f; tuples = tuple_in (symbols_at s is); vars = vars }) heard)

module _ (s : List Tree) (is : List SymbolInfo) (names : ScopeNames) (w : World)
    (symbols : w.symbols.now ≡ is) (scope : w.scope.now ≡ names) where
  pub world_is : (vars : List Word) → w.vars.now ≡ vars → where_at s w ≡ over (symbols_at s is) (scope_at s names) vars
  world_is vars v =
      ap (λ (js : List SymbolInfo). meant s js w.scope.now w.vars.now) symbols
      ∙ (ap (λ (ns : ScopeNames). meant s is ns w.vars.now) scope ∙ (ap (meant s is names) v ∙ meant_is s is names vars))

  pub world_held : IsSignature s is → AreScopes s (length is) names → WorldHeld s w
  world_held h k = record {
    symbols = rw symbols h.typed;
    types = subst (λ (ns : ScopeNames). (qs : List Word) (x : Word) → IfSome (type_named ns qs x) (MeaningHeld s)) (sym scope) (λ qs x. meaning_held s (length is) (type_named names qs x) (type_thing s (length is) names k (some_entry s is h) qs x));
  }

  pub world_scoped : (vars : List Word) → w.vars.now ≡ vars → IsSignature s is → AreScopes s (length is) names → IsScoped (where_at s w)
  world_scoped vars v h k = subst IsScoped (sym (world_is vars v)) (record {
    symbols = h.scoped;
    types = λ qs x. scoped_at s (length is) names k (some_entry s is h) qs x;
    tuples = tuples_below (symbols_at s is) h.int;
  })
