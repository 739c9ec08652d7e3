use Rattle.std.proofs.Common.{length}
use Rattle.elab_declarations.proofs.inductive_declarations.naming.+check_inductives.Given as goal

abbrev pub decreases-check_inductives : goal.decreases-check_inductives
decreases-check_inductives l = length l.inductives.now
