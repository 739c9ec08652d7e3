use Rattle.std.proofs.Common.{length}
use Rattle.declarations.proofs.spelled_groups.inversions.+argument_equations.Given as goal

abbrev pub decreases-argument_equations : goal.decreases-argument_equations
decreases-argument_equations l = length l.types.now
