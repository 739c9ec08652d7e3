use Rattle.std.proofs.Common.{length}
use Rattle.elab_groups.proofs.solving.+most_variables.Given as goal

abbrev pub decreases-most_variables : goal.decreases-most_variables
decreases-most_variables l = length l.signed.now
