use Rattle.std.proofs.Common.{length}
use Rattle.checks.proofs.decl_checks.structure.+push_choice.Given as goal

abbrev pub decreases-push_choice : goal.decreases-push_choice
decreases-push_choice l = length l.defs.now
