use Rattle.std.proofs.Common.{length}
use Rattle.declarations.proofs.spelled_groups.clause_origins.+origin_in_all_clauses.Given as goal

abbrev pub decreases-origin_in_all_clauses : goal.decreases-origin_in_all_clauses
decreases-origin_in_all_clauses l = length l.inductives.now
