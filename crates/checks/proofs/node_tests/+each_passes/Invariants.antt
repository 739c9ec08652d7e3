use Rattle.std.proofs.Common.{◌+◌, ◌*◌}
use Rattle.checks.proofs.node_tests.+each_passes.Given as goal

abbrev pub decreases-tree_passes : goal.decreases-tree_passes
decreases-tree_passes g l = 2 * l.e.0 + 1

abbrev pub decreases-parts_pass : goal.decreases-parts_pass
decreases-parts_pass g l = 2 * l.e.0
