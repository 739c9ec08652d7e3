use Rattle.std.proofs.Common.{length}
use Rattle.tr_algebraic.proofs.algebraic_forms.terms.+quantify.Given as goal

abbrev pub decreases-quantify : goal.decreases-quantify
decreases-quantify l = length l.types.now
