use Rattle.std.proofs.Common.{length}
use Rattle.elab_groups.proofs.members.params.+enter_params.Given as goal

abbrev pub decreases-enter_params : goal.decreases-enter_params
decreases-enter_params l = length l.params.now
