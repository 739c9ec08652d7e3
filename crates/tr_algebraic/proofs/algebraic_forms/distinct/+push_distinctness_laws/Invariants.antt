use Rattle.std.proofs.Common.{length}
use Rattle.tr_algebraic.proofs.algebraic_forms.distinct.+push_distinctness_laws.Given as goal

abbrev pub decreases-push_distinctness_laws : goal.decreases-push_distinctness_laws
decreases-push_distinctness_laws l = length l.cons.now
