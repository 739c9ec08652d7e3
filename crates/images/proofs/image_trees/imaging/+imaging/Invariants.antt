use Rattle.std.proofs.Common.{◌+◌, ◌*◌}
use Rattle.images.proofs.image_trees.imaging.+imaging.Given as goal

abbrev pub decreases-image_of : goal.decreases-image_of
decreases-image_of g l = 2 * l.e.0 + 1

abbrev pub decreases-over_parts : goal.decreases-over_parts
decreases-over_parts g l = 2 * l.e.0
