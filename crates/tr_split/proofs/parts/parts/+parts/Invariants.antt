use Rattle.std.proofs.Common.{◌+◌, ◌*◌, max}
use Rattle.tr_split.proofs.parts.parts.+parts.Given as goal

abbrev pub decreases-add_joined : goal.decreases-add_joined
decreases-add_joined l = 4 * l.formula.0

abbrev pub decreases-add_parts : goal.decreases-add_parts
decreases-add_parts l = 4 * l.formula.0 + 1

abbrev pub decreases-add_parts_under : goal.decreases-add_parts_under
decreases-add_parts_under l = 4 * l.formula.0 + 2

abbrev pub decreases-add_branches : goal.decreases-add_branches
decreases-add_branches l = 4 * max l.then.0 l.other.0 + 3
