use Rattle.std.proofs.Common.{length}
use Rattle.clones.proofs.clone_elements.rights.+check_variables.Given as goal

abbrev pub decreases-check_variables : goal.decreases-check_variables
decreases-check_variables l = length l.elements.now
