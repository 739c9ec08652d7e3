use Rattle.std.proofs.Common.{length}
use Rattle.clones.proofs.clone_copies.places.+push_rigid.Given as goal

abbrev pub decreases-push_rigid : goal.decreases-push_rigid
decreases-push_rigid l = length l.vars.now
