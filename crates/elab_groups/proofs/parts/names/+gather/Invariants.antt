use Rattle.std.proofs.Common.{length}
use Rattle.elab_groups.proofs.parts.names.+gather.Given as goal

abbrev pub decreases-gather : goal.decreases-gather
decreases-gather l = length l.names.now
