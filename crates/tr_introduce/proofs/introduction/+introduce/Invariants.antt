use Rattle.trees.specs.Node.{tree_at}
use Rattle.tr_introduce.specs.Introduce.{prefix}
use Rattle.tr_introduce.proofs.introduction.+introduce.Given as goal

abbrev pub decreases-introduce : goal.decreases-introduce
decreases-introduce l = prefix (tree_at l.store.now l.goal)
