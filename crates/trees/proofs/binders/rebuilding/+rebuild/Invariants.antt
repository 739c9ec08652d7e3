use Rattle.std.proofs.Common.{◌+◌, ◌*◌}
use Rattle.trees.proofs.binders.rebuilding.+rebuild.Given as goal

abbrev pub decreases-rebuild : goal.decreases-rebuild
decreases-rebuild g l = 3 * l.e.0 + 2

abbrev pub decreases-rebuild_node : goal.decreases-rebuild_node
decreases-rebuild_node g l = 3 * l.e.0 + 1

abbrev pub decreases-rebuild_parts : goal.decreases-rebuild_parts
decreases-rebuild_parts g l = 3 * l.e.0
