use Rattle.std.proofs.Common.{length}
use Rattle.elab_groups.proofs.members.params.+gather_params.Given as goal

abbrev pub decreases-gather_params : goal.decreases-gather_params
decreases-gather_params l = length l.params.now
