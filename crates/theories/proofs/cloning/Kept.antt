-- A signature with entries whose types are types at their own type variables, over a later store.
use Rattle.std.proofs.Common.{◌≡◌, List, ◌++◌, get_or, slice_get, All, Option, Some, None, IfSome, sym, ap, subst, ◌∙◌}
use Rattle.std.specs.Option.{option_map}
use Rattle.std.proofs.lemmas.List.Elements.{All-append, All-map}
use Rattle.tasks.specs.trees.declared.TermId.{TermId}
use Rattle.tasks.specs.trees.declared.Sort.TheVariants.{Kind}
use Rattle.tasks.specs.trees.Tree.{Tree}
use Rattle.tasks.specs.trees.Node.{tree_at, Holds}
use Rattle.tasks.specs.trees.Sorts.{sort_of}
use Rattle.tasks.specs.declared.signature.SymbolInfo.{SymbolInfo}
use Rattle.tasks.specs.Task.{SymbolTree, int_symbol}
use Rattle.tasks.specs.Meaning.{symbol_at, symbols_at, SymbolHeld}
use Rattle.elab_groups.specs.open_types.Drafts.{HoldsType, SymbolTyped}
use Rattle.elab_groups.specs.open_types.Scoped.{IsScopedEntry}
use Rattle.elab_groups.specs.parts.Entries.{IsSignature}
use Rattle.elaboration_laws.proofs.Declarations.{unmap}
use Rattle.theories.specs.cloning.Copied.{HasKinds, IsKeptEntry}
use Rattle.elab_groups.proofs.parts.Entering.{first_stays}

abbrev pub IsKind : Tree → Type 0
IsKind t = sort_of t ≡ Kind

module _ (s : List Tree) where
  result_kind : (r : Option TermId) → IfSome r (HoldsType s) → IfSome (option_map (tree_at s) r) IsKind
  result_kind None h = tt
  result_kind (Some id) h = h.kind

  entry_kinds : (i : SymbolInfo) → SymbolTyped s i → HasKinds (symbol_at s i)
  entry_kinds i h = record { args = All-map IsKind (tree_at s) i.args (λ k d l. (h.args k d l).kind); result = result_kind i.result h.result }

  all_kinds : (is : List SymbolInfo) → All (SymbolTyped s) is → All HasKinds (symbols_at s is)
  all_kinds is h = All-map HasKinds (symbol_at s) is (λ k d l. entry_kinds (get_or is k d) (h k d l))

  result_typed : (r : Option TermId) → IfSome r (Holds s) → IfSome (option_map (tree_at s) r) IsKind → IfSome r (HoldsType s)
  result_typed None h k = tt
  result_typed (Some id) h k = record { held = h; kind = k }

  entry_typed : (i : SymbolInfo) → SymbolHeld s i → HasKinds (symbol_at s i) → SymbolTyped s i
  entry_typed i h k = record {
    args = λ j d l. record { held = h.args j d l; kind = unmap IsKind (tree_at s) i.args k.args j d l };
    result = result_typed i.result h.result k.result;
  }

  result_held : (r : Option TermId) → IfSome r (HoldsType s) → IfSome r (Holds s)
  result_held None h = tt
  result_held (Some id) h = h.held

  pub all_held : (is : List SymbolInfo) → IsSignature s is → All (SymbolHeld s) is
  all_held is h = λ k d l. let one = h.typed k d l in record { args = λ j e m. (one.args j e m).held; result = result_held (get_or is k d).result one.result }

-- with the entries of copies
pub signature_made : (s t : List Tree) (old new : List SymbolInfo) (copies : List SymbolTree) → IsSignature s old → symbols_at t new ≡ symbols_at s old ++ copies → All (SymbolHeld t) new → All IsKeptEntry copies → IsSignature t new
signature_made s t old new copies h is held kept =
    let kinds : All HasKinds (symbols_at s old ++ copies) = All-append HasKinds (symbols_at s old) copies (all_kinds s old h.typed) (λ k d l. (kept k d l).kinds) in
    let there : All HasKinds (symbols_at t new) = subst (All HasKinds) (sym is) kinds in
    record {
      int = ap (λ (es : List SymbolTree). slice_get es 0) is ∙ first_stays (symbols_at s old) copies int_symbol h.int;
      typed = λ k d l. entry_typed t (get_or new k d) (held k d l) (unmap HasKinds (symbol_at t) new there k d l);
      scoped = subst (All IsScopedEntry) (sym is) (All-append IsScopedEntry (symbols_at s old) copies h.scoped (λ k d l. (kept k d l).scoped));
    }
