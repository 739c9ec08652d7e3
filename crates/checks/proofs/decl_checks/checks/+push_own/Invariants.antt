use Rattle.std.proofs.Common.{length}
use Rattle.checks.proofs.decl_checks.checks.+push_own.Given as goal

abbrev pub decreases-push_own : goal.decreases-push_own
decreases-push_own l = length l.clauses.now
