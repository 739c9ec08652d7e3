use Rattle.std.proofs.Common.{length}
use Rattle.tr_algebraic.proofs.algebraic_forms.origins.+among_differences.Given as goal

abbrev pub decreases-among_differences : goal.decreases-among_differences
decreases-among_differences l = length l.cons.now
