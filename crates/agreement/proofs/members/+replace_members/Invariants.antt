use Rattle.std.proofs.Common.{length}
use Rattle.agreement.proofs.members.+replace_members.Given as goal

abbrev pub decreases-replace_members : goal.decreases-replace_members
decreases-replace_members l = length l.links.now
