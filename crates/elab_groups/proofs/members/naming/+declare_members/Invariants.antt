use Rattle.std.proofs.Common.{length}
use Rattle.elab_groups.proofs.members.naming.+declare_members.Given as goal

abbrev pub decreases-declare_members : goal.decreases-declare_members
decreases-declare_members l = length l.members.now
