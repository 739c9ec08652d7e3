use Rattle.std.proofs.Common.{◌+◌, ◌*◌}
use Rattle.step_reading.proofs.marks.+opening.Given as goal

abbrev pub decreases-is_open : goal.decreases-is_open
decreases-is_open l = 2 * l.id.0 + 1

abbrev pub decreases-parts_are_open : goal.decreases-parts_are_open
decreases-parts_are_open l = 2 * l.id.0
