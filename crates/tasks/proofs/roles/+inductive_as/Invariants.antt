use Rattle.std.proofs.Common.{length}
use Rattle.tasks.proofs.roles.+inductive_as.Given as goal

abbrev pub decreases-inductive_as : goal.decreases-inductive_as
decreases-inductive_as l = length l.inductives.now
