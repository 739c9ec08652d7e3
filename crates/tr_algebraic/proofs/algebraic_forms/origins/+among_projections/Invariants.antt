use Rattle.std.proofs.Common.{length}
use Rattle.tr_algebraic.proofs.algebraic_forms.origins.+among_projections.Given as goal

abbrev pub decreases-among_projections : goal.decreases-among_projections
decreases-among_projections l = length l.cons.now
