use Rattle.std.proofs.Common.{length}
use Rattle.tasks.proofs.roles.+defined_as.Given as goal

abbrev pub decreases-defined_as : goal.decreases-defined_as
decreases-defined_as l = length l.defs.now
