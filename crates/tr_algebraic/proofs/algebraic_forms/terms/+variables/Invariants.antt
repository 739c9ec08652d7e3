use Rattle.std.proofs.Common.{length}
use Rattle.tr_algebraic.proofs.algebraic_forms.terms.+variables.Given as goal

abbrev pub decreases-variables : goal.decreases-variables
decreases-variables l = length l.types.now
