use Rattle.std.proofs.Common.{length}
use Rattle.checks.proofs.decl_checks.standing.+is_above.Given as goal

abbrev pub decreases-is_above : goal.decreases-is_above
decreases-is_above l = length l.low.now
