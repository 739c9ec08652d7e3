use Rattle.std.proofs.Common.{length}
use Rattle.tasks.proofs.roles.+algebraic_as.Given as goal

abbrev pub decreases-algebraic_as : goal.decreases-algebraic_as
decreases-algebraic_as l = length l.types.now
