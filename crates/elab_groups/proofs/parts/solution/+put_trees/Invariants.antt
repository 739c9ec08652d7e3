use Rattle.std.proofs.Common.{length}
use Rattle.elab_groups.proofs.parts.solution.+put_trees.Given as goal

abbrev pub decreases-put_trees : goal.decreases-put_trees
decreases-put_trees l = length l.ids.now
