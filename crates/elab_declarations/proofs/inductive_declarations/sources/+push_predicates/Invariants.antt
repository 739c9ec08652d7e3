use Rattle.std.proofs.Common.{length}
use Rattle.elab_declarations.proofs.inductive_declarations.sources.+push_predicates.Given as goal

abbrev pub decreases-push_predicates : goal.decreases-push_predicates
decreases-push_predicates l = length l.inductives.now
