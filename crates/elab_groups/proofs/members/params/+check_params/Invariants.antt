use Rattle.std.proofs.Common.{length}
use Rattle.elab_groups.proofs.members.params.+check_params.Given as goal

abbrev pub decreases-check_params : goal.decreases-check_params
decreases-check_params l = length l.params.now
