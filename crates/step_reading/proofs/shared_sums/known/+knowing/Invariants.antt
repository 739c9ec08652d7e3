use Rattle.std.proofs.Common.{◌+◌, ◌*◌}
use Rattle.step_reading.proofs.shared_sums.known.+knowing.Given as goal

abbrev pub decreases-known_of : goal.decreases-known_of
decreases-known_of l = 2 * l.e.0 + 1

abbrev pub decreases-known_by_top : goal.decreases-known_by_top
decreases-known_by_top l = 2 * l.e.0
