-- Typed entries are kept by a signature.
use Rattle.std.proofs.Common.{ℕ, List, get_or, All, Option, Some, None, IfSome}
use Rattle.tasks.specs.trees.Tree.{Tree}
use Rattle.tasks.specs.trees.Facts.{TyVarsBelow}
use Rattle.tasks.specs.Task.{SymbolTree}
use Rattle.tasks.specs.Vocabulary.{Vocabulary}
use Rattle.tasks.specs.Valid.{IsTypeIn}
use Rattle.elaboration_laws.specs.Scopes.{IsTypedEntry}
use Rattle.theories.specs.cloning.Copied.{IsKeptEntry}
use Rattle.theories.proofs.cloning.Kept.{IsKind}
use Rattle.tasks.proofs.TypeInstances.{below as below_of}

module _ (v : Vocabulary) where
  result_sort : (n : ℕ) (r : Option Tree) → IfSome r (IsTypeIn v n) → IfSome r IsKind
  result_sort n None h = tt
  result_sort n (Some t) h = h.sort

  result_below : (n : ℕ) (r : Option Tree) → IfSome r (IsTypeIn v n) → IfSome r (TyVarsBelow n)
  result_below n None h = tt
  result_below n (Some t) h = below_of n t h.variables

  entry_kept : (e : SymbolTree) → IsTypedEntry v e → IsKeptEntry e
  entry_kept e h = record {
    kinds = record { args = λ k d l. (h.types.args k d l).sort; result = result_sort e.vars e.result h.types.result };
    scoped = record { args = λ k d l. below_of e.vars (get_or e.args k d) (h.types.args k d l).variables; result = result_below e.vars e.result h.types.result };
  }

  pub typed_kept : (es : List SymbolTree) → All (IsTypedEntry v) es → All IsKeptEntry es
  typed_kept es h = λ k d l. entry_kept (get_or es k d) (h k d l)
