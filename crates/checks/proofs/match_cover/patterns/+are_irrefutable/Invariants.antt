use Rattle.std.proofs.Common.{length}
use Rattle.checks.proofs.match_cover.patterns.+are_irrefutable.Given as goal

abbrev pub decreases-are_irrefutable : goal.decreases-are_irrefutable
decreases-are_irrefutable l = length l.row.now
