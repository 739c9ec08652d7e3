use Rattle.std.proofs.Common.{length}
use Rattle.tr_algebraic.proofs.algebraic_forms.cases.+projected_fields.Given as goal

abbrev pub decreases-projected_fields : goal.decreases-projected_fields
decreases-projected_fields l = length l.projections.now
