use Rattle.std.proofs.Common.{length}
use Rattle.declarations.proofs.spelled_groups.inductives.+push_all_clauses.Given as goal

abbrev pub decreases-push_all_clauses : goal.decreases-push_all_clauses
decreases-push_all_clauses l = length l.inductives.now
