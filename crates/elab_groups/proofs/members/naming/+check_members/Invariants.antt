use Rattle.std.proofs.Common.{length}
use Rattle.elab_groups.proofs.members.naming.+check_members.Given as goal

abbrev pub decreases-check_members : goal.decreases-check_members
decreases-check_members l = length l.members.now
