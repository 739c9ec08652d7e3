use Rattle.std.proofs.Common.{◌+◌, ◌*◌}
use Rattle.walking.proofs.walking.+walk.Given as goal

abbrev pub decreases-walk_tree : goal.decreases-walk_tree
decreases-walk_tree g l = 4 * l.e.0 + 3

abbrev pub decreases-walk_node : goal.decreases-walk_node
decreases-walk_node g l = 4 * l.e.0 + 2

abbrev pub decreases-walk_parts : goal.decreases-walk_parts
decreases-walk_parts g l = 4 * l.e.0 + 1

abbrev pub decreases-walk_join : goal.decreases-walk_join
decreases-walk_join g l = 4 * l.e.0

abbrev pub decreases-walk_under : goal.decreases-walk_under
decreases-walk_under g l = 4 * l.e.0

abbrev pub decreases-walk_equal : goal.decreases-walk_equal
decreases-walk_equal g l = 4 * l.e.0

abbrev pub decreases-walk_symbol : goal.decreases-walk_symbol
decreases-walk_symbol g l = 4 * l.e.0

abbrev pub decreases-walk_arguments : goal.decreases-walk_arguments
decreases-walk_arguments g l = 4 * l.list.0

abbrev pub decreases-walk_let : goal.decreases-walk_let
decreases-walk_let g l = 4 * l.e.0

abbrev pub decreases-walk_if : goal.decreases-walk_if
decreases-walk_if g l = 4 * l.e.0

abbrev pub decreases-walk_case : goal.decreases-walk_case
decreases-walk_case g l = 4 * l.e.0

abbrev pub decreases-walk_arms : goal.decreases-walk_arms
decreases-walk_arms g l = 4 * l.arms.0
