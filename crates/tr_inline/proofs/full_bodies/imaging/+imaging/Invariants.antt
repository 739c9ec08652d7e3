use Rattle.std.proofs.Common.{◌+◌, ◌*◌}
use Rattle.tr_inline.proofs.full_bodies.imaging.+imaging.Given as goal

abbrev pub decreases-inline_tree : goal.decreases-inline_tree
decreases-inline_tree l = 5 * l.e.0 + 3

abbrev pub decreases-inline_node : goal.decreases-inline_node
decreases-inline_node l = 5 * l.e.0 + 2

abbrev pub decreases-inline_use : goal.decreases-inline_use
decreases-inline_use l = 5 * l.e.0 + 1

abbrev pub decreases-inline_parts : goal.decreases-inline_parts
decreases-inline_parts l = 5 * l.e.0 + 1

abbrev pub decreases-inline_arguments : goal.decreases-inline_arguments
decreases-inline_arguments l = 5 * l.args.0

abbrev pub decreases-inline_argument : goal.decreases-inline_argument
decreases-inline_argument l = 5 * l.e.0 + 4
