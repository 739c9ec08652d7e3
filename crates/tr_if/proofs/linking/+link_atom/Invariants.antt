use Rattle.tasks.specs.trees.Tree.{size}
use Rattle.tasks.specs.trees.Node.{tree_at}
use Rattle.tr_if.proofs.linking.+link_atom.Given as goal

abbrev pub decreases-link_atom : goal.decreases-link_atom
decreases-link_atom l = size (tree_at l.draft.now.trees l.atom.formula)
