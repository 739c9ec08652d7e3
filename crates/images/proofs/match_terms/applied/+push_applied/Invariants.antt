use Rattle.std.proofs.Common.{length}
use Rattle.images.proofs.match_terms.applied.+push_applied.Given as goal

abbrev pub decreases-push_applied : goal.decreases-push_applied
decreases-push_applied g l = length l.projections.now
