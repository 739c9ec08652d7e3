use Rattle.std.proofs.Common.{◌+◌, ◌*◌}
use Rattle.open_types.proofs.unify_types.resolving.+build.Given as goal

abbrev pub decreases-build : goal.decreases-build
decreases-build l = 2 * l.steps

abbrev pub decreases-build_node : goal.decreases-build_node
decreases-build_node l = 2 * l.steps + 1
