use Rattle.std.proofs.Common.{length}
use Rattle.elab_groups.proofs.members.signing.+sign_all.Given as goal

abbrev pub decreases-sign_all : goal.decreases-sign_all
decreases-sign_all l = length l.members.now
