use Rattle.std.proofs.Common.{length}
use Rattle.elab_declarations.proofs.inductive_declarations.sources.+enter_inductives.Given as goal

abbrev pub decreases-enter_inductives : goal.decreases-enter_inductives
decreases-enter_inductives l = length l.inductives.now
