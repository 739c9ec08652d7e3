use Rattle.std.proofs.Common.{length}
use Rattle.checks.proofs.match_cover.patterns.+push_specialized.Given as goal

abbrev pub decreases-push_specialized : goal.decreases-push_specialized
decreases-push_specialized l = length l.rows.now
