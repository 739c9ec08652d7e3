use Rattle.std.proofs.Common.{length}
use Rattle.checks.proofs.match_cover.exhaustive.+push_alone.Given as goal

abbrev pub decreases-push_alone : goal.decreases-push_alone
decreases-push_alone l = length l.patterns.now
