use Rattle.std.proofs.Common.{length}
use Rattle.clones.proofs.clone_elements.sides.+push_sides.Given as goal

abbrev pub decreases-push_sides : goal.decreases-push_sides
decreases-push_sides l = length l.elements.now
