use Rattle.std.proofs.Common.{length}
use Rattle.declarations.proofs.spelled_groups.said.+push_equations.Given as goal

abbrev pub decreases-push_equations : goal.decreases-push_equations
decreases-push_equations l = length l.defs.now
