use Rattle.std.proofs.Common.{length}
use Rattle.tr_algebraic.proofs.algebraic_forms.distinct.+push_differences.Given as goal

abbrev pub decreases-push_differences : goal.decreases-push_differences
decreases-push_differences l = length l.rest.now
