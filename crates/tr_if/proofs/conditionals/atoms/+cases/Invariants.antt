use Rattle.std.proofs.Common.{◌+◌, ◌*◌}
use Rattle.trees.specs.Tree.{size}
use Rattle.trees.specs.Node.{tree_at}
use Rattle.tr_if.proofs.conditionals.atoms.+cases.Given as goal

abbrev pub decreases-atom_by_cases : goal.decreases-atom_by_cases
decreases-atom_by_cases l = 2 * size (tree_at l.store.now l.e) + 1

abbrev pub decreases-by_first : goal.decreases-by_first
decreases-by_first l = 2 * size (tree_at l.store.now l.e)
