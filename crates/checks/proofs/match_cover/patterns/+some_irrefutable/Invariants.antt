use Rattle.std.proofs.Common.{length}
use Rattle.checks.proofs.match_cover.patterns.+some_irrefutable.Given as goal

abbrev pub decreases-some_irrefutable : goal.decreases-some_irrefutable
decreases-some_irrefutable l = length l.rows.now
