use Rattle.std.proofs.Common.{length}
use Rattle.elab_declarations.proofs.inductive_declarations.naming.+declare_inductives.Given as goal

abbrev pub decreases-declare_inductives : goal.decreases-declare_inductives
decreases-declare_inductives l = length l.inductives.now
