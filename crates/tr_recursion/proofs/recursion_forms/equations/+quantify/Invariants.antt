use Rattle.std.proofs.Common.{length}
use Rattle.tr_recursion.proofs.recursion_forms.equations.+quantify.Given as goal

abbrev pub decreases-quantify : goal.decreases-quantify
decreases-quantify l = length l.types.now
