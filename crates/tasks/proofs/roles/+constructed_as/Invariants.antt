use Rattle.std.proofs.Common.{length}
use Rattle.tasks.proofs.roles.+constructed_as.Given as goal

abbrev pub decreases-constructed_as : goal.decreases-constructed_as
decreases-constructed_as l = length l.cons.now
