use Rattle.std.proofs.Common.{◌+◌, ◌*◌}
use Rattle.trees.proofs.binders.index_bounds.bounding.+bounding.Given as goal

abbrev pub decreases-tree_bound : goal.decreases-tree_bound
decreases-tree_bound l = 2 * l.e.0 + 1

abbrev pub decreases-node_bound : goal.decreases-node_bound
decreases-node_bound l = 2 * l.e.0
