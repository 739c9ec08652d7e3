use Rattle.std.proofs.Common.{length}
use Rattle.declarations.proofs.spelled_groups.inductives.+push_inversions.Given as goal

abbrev pub decreases-push_inversions : goal.decreases-push_inversions
decreases-push_inversions l = length l.inductives.now
