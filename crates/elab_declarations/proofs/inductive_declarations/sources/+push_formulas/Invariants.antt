use Rattle.std.proofs.Common.{length}
use Rattle.elab_declarations.proofs.inductive_declarations.sources.+push_formulas.Given as goal

abbrev pub decreases-push_formulas : goal.decreases-push_formulas
decreases-push_formulas l = length l.inductives.now
