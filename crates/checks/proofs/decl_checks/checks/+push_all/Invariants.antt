use Rattle.std.proofs.Common.{length}
use Rattle.checks.proofs.decl_checks.checks.+push_all.Given as goal

abbrev pub decreases-push_all : goal.decreases-push_all
decreases-push_all l = length l.inductives.now
