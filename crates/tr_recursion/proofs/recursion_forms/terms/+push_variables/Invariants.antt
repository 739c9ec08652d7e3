use Rattle.std.proofs.Common.{length}
use Rattle.tr_recursion.proofs.recursion_forms.terms.+push_variables.Given as goal

abbrev pub decreases-push_variables : goal.decreases-push_variables
decreases-push_variables l = length l.types.now
