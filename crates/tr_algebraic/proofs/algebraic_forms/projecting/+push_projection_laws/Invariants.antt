use Rattle.std.proofs.Common.{length}
use Rattle.tr_algebraic.proofs.algebraic_forms.projecting.+push_projection_laws.Given as goal

abbrev pub decreases-push_projection_laws : goal.decreases-push_projection_laws
decreases-push_projection_laws l = length l.projections.now
