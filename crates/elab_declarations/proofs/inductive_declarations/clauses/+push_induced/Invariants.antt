use Rattle.std.proofs.Common.{length}
use Rattle.elab_declarations.proofs.inductive_declarations.clauses.+push_induced.Given as goal

abbrev pub decreases-push_induced : goal.decreases-push_induced
decreases-push_induced l = length l.inductives.now
