use Rattle.std.proofs.Common.{length}
use Rattle.checks.proofs.decl_checks.checks.+first_without.Given as goal

abbrev pub decreases-first_without : goal.decreases-first_without
decreases-first_without l = length l.clauses.now
