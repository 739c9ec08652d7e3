use Rattle.std.proofs.Common.{◌+◌, ◌*◌}
use Rattle.tr_discriminate.proofs.instance_search.gathering.+gathering.Given as goal

abbrev pub decreases-gather_tree : goal.decreases-gather_tree
decreases-gather_tree l = 2 * l.e.0 + 1

abbrev pub decreases-gather_parts : goal.decreases-gather_parts
decreases-gather_parts l = 2 * l.e.0
