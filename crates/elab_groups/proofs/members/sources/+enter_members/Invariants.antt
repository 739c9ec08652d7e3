use Rattle.std.proofs.Common.{length}
use Rattle.elab_groups.proofs.members.sources.+enter_members.Given as goal

abbrev pub decreases-enter_members : goal.decreases-enter_members
decreases-enter_members l = length l.members.now
