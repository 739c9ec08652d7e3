use Rattle.std.proofs.Common.{length}
use Rattle.clones.proofs.clone_copies.places.+push_rigid_types.Given as goal

abbrev pub decreases-push_rigid_types : goal.decreases-push_rigid_types
decreases-push_rigid_types l = length l.numbers.now
