use Rattle.std.proofs.Common.{length}
use Rattle.clones.proofs.clone_elements.elements.+check_sides.Given as goal

abbrev pub decreases-check_sides : goal.decreases-check_sides
decreases-check_sides l = length l.sides.now
