use Rattle.std.proofs.Common.{length}
use Rattle.declarations.proofs.spelled_groups.inversions.+given_by_any.Given as goal

abbrev pub decreases-given_by_any : goal.decreases-given_by_any
decreases-given_by_any l = length l.clauses.now
