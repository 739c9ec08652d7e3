use Rattle.std.proofs.Common.{◌+◌, ◌*◌}
use Rattle.open_types.proofs.reorder.+look.Given as goal

abbrev pub decreases-look_at : goal.decreases-look_at
decreases-look_at l = 2 * l.e.0 + 1

abbrev pub decreases-look_at_parts : goal.decreases-look_at_parts
decreases-look_at_parts l = 2 * l.e.0
