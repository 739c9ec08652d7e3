use Rattle.std.proofs.Common.{length}
use Rattle.tr_algebraic.proofs.algebraic_forms.projecting.+push_all_projection_laws.Given as goal

abbrev pub decreases-push_all_projection_laws : goal.decreases-push_all_projection_laws
decreases-push_all_projection_laws l = length l.cons.now
