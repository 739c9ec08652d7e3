-- Two formulas with their negations, and what premises add.
use Rattle.std.specs.Prelude.{◌≡◌, List, ◌++◌, All}
use Rattle.trees.specs.Tree.{Tree}
use Rattle.trees.specs.Node.{tree_at}
use Rattle.tasks.specs.Task.{neg}
use Rattle.evidence.specs.Drafts.{DraftTree, IsFormulaAt, AreFormulas}
use Rattle.evidence.specs.declared.proof_scripts.line.Sides.{Sides}
use Rattle.evidence.specs.declared.proof_scripts.sides.Both.{Both}
use Rattle.evidence.specs.proof_scripts.Scripts.{added_ids, added_at}

-- the numbers of two formulas and of their negations
pub record AreBoth (d : DraftTree) (x y : Tree) (b : Both) : Type 0 where
  pub left : IsFormulaAt d b.left
  pub right : IsFormulaAt d b.right
  pub no_left : IsFormulaAt d b.no_left
  pub no_right : IsFormulaAt d b.no_right
  pub left_is : tree_at d.trees b.left ≡ x
  pub right_is : tree_at d.trees b.right ≡ y
  pub no_left_is : tree_at d.trees b.no_left ≡ neg x
  pub no_right_is : tree_at d.trees b.no_right ≡ neg y

-- what the premises add is this
pub record AreSides (d : DraftTree) (s : Sides) (added : List (List Tree)) : Type 0 where
  pub first : All (AreFormulas d) (added_ids s.first)
  pub second : All (AreFormulas d) (added_ids s.second)
  pub are : added_at d.trees s.first ++ added_at d.trees s.second ≡ added
