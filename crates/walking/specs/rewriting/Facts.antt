-- Propositions of a task at types, and what they become.
use Rattle.std.specs.Prelude.{◌≡◌, ℕ, ◌≤◌, List, length, slice_get, All, Some}
use Rattle.tasks.specs.trees.declared.TermId.{TermId}
use Rattle.tasks.specs.trees.Tree.{Tree, above_params}
use Rattle.tasks.specs.trees.Node.{tree_at}
use Rattle.tasks.specs.trees.Binding.{inst_types}
use Rattle.tasks.specs.Task.{TaskTree, PropositionTree, props}
use Rattle.tasks.specs.Valid.{IsTypeOver}
use Rattle.evidence.specs.Drafts.{DraftTree, IsFormulaAt}

-- a proposition of the task, and as many ground types as it has type variables
pub record IsPropositionAt (t : TaskTree) (k : ℕ) (types : List Tree) : Type 0 where
  pub proposition : PropositionTree
  pub there : slice_get (props t) k ≡ Some proposition
  pub as_many : length types ≡ proposition.vars
  pub ground : All (IsTypeOver t 0) types

-- the number of the proposition at the types
pub record IsMadeAt (d : DraftTree) (k : ℕ) (types : List Tree) (id : TermId) : Type 0 where
  pub formula : IsFormulaAt d id
  pub below : above_params (tree_at d.trees id) ≤ 0
  pub is : (p : PropositionTree) → slice_get (props d.task) k ≡ Some p
      → tree_at d.trees id ≡ inst_types p.formula types

-- the formula is what the proposition becomes, at the types
pub record IsImageAt (t : TaskTree) (g : Tree → Tree) (k : ℕ) (types : List Tree)
    (formula : Tree) : Type 0 where
  pub at : IsPropositionAt t k types
  pub is : formula ≡ inst_types (g at.proposition.formula) types
