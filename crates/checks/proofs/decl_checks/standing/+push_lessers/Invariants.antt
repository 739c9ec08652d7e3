use Rattle.std.proofs.Common.{length}
use Rattle.checks.proofs.decl_checks.standing.+push_lessers.Given as goal

abbrev pub decreases-push_lessers : goal.decreases-push_lessers
decreases-push_lessers l = length l.a.now
