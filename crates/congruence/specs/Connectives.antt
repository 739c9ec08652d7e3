-- Formulas of a connective.
use Rattle.std.specs.Prelude.{◌≡◌}
use Rattle.trees.specs.declared.Op.{Op}
use Rattle.trees.specs.Tree.{Two, HJoin}
use Rattle.trees.specs.Node.{tree_at, Holds}
use Rattle.evidence.specs.Drafts.{DraftTree, IsFormulaAt}
use Rattle.congruence.specs.declared.joins.Joined.{Joined}

-- the numbers of a formula of this connective and of its sides
pub record IsJoined (d : DraftTree) (op : Op) (f : Joined) : Type 0 where
  pub whole : IsFormulaAt d f.whole
  pub first_held : Holds d.trees f.first
  pub second_held : Holds d.trees f.second
  pub is : tree_at d.trees f.whole
      ≡ Two (HJoin op) (tree_at d.trees f.first) (tree_at d.trees f.second)
