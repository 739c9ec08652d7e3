use Rattle.std.proofs.Common.{◌+◌, ◌*◌}
use Rattle.tr_inline.proofs.full_bodies.sizes.+counting.Given as goal

abbrev pub decreases-least_nodes : goal.decreases-least_nodes
decreases-least_nodes l = 2 * l.e.0 + 1

abbrev pub decreases-joined_nodes : goal.decreases-joined_nodes
decreases-joined_nodes l = 2 * l.part.0 + 2
