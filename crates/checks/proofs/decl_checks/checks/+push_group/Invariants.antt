use Rattle.std.proofs.Common.{length}
use Rattle.checks.proofs.decl_checks.checks.+push_group.Given as goal

abbrev pub decreases-push_group : goal.decreases-push_group
decreases-push_group l = length l.inductives.now
