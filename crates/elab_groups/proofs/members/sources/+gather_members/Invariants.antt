use Rattle.std.proofs.Common.{length}
use Rattle.elab_groups.proofs.members.sources.+gather_members.Given as goal

abbrev pub decreases-gather_members : goal.decreases-gather_members
decreases-gather_members l = length l.members.now
