use Rattle.std.proofs.Common.{◌+◌, ◌*◌}
use Rattle.clones.proofs.maps.+mapping.Given as goal

abbrev pub decreases-map_tree : goal.decreases-map_tree
decreases-map_tree l = 2 * l.e.0 + 1

abbrev pub decreases-map_parts : goal.decreases-map_parts
decreases-map_parts l = 2 * l.e.0
