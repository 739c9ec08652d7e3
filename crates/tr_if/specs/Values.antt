-- Two formulas that are one with a hole, at two terms, by their numbers in a draft.
use Rattle.std.specs.Prelude.{◌≡◌}
use Rattle.tasks.specs.trees.declared.Sort.TheVariants.{Term}
use Rattle.tasks.specs.trees.Node.{tree_at}
use Rattle.tasks.specs.trees.Sorts.{sort_of}
use Rattle.evidence.specs.Drafts.{DraftTree, IsFormulaAt}
use Rattle.congruence.specs.Alike.{ArePair, HoleAt}
use Rattle.tr_if.specs.declared.values.PlacedTerm.{PlacedTerm}

pub record IsPlacedTerm (d : DraftTree) (k : PlacedTerm) : Type 0 where
  pub terms : ArePair d k.old k.new
  pub term : sort_of (tree_at d.trees k.old) ≡ Term
  pub left : IsFormulaAt d k.left
  pub right : IsFormulaAt d k.right
  pub hole : HoleAt d k.hole k.left k.right k.old k.new
