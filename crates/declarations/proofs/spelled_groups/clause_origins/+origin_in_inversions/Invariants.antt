use Rattle.std.proofs.Common.{length}
use Rattle.declarations.proofs.spelled_groups.clause_origins.+origin_in_inversions.Given as goal

abbrev pub decreases-origin_in_inversions : goal.decreases-origin_in_inversions
decreases-origin_in_inversions l = length l.inductives.now
