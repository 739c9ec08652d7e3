use Rattle.std.proofs.Common.{length}
use Rattle.elab_declarations.proofs.inductive_declarations.clauses.+sign_inductives.Given as goal

abbrev pub decreases-sign_inductives : goal.decreases-sign_inductives
decreases-sign_inductives l = length l.inductives.now
