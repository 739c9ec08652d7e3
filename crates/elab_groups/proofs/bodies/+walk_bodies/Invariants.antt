use Rattle.std.proofs.Common.{length}
use Rattle.elab_groups.proofs.bodies.+walk_bodies.Given as goal

abbrev pub decreases-walk_bodies : goal.decreases-walk_bodies
decreases-walk_bodies l = length l.members.now
