use Rattle.std.proofs.Common.{◌+◌, ◌*◌}
use Rattle.trees.specs.Node.{tree_at}
use Rattle.tr_introduce.specs.Introduce.{prefix}
use Rattle.tr_introduce.proofs.gluing.+glue.Given as goal

abbrev pub decreases-glue_goal : goal.decreases-glue_goal
decreases-glue_goal l = 2 * prefix (tree_at l.draft.now.trees l.goal) + 1

abbrev pub decreases-glue_implication : goal.decreases-glue_implication
decreases-glue_implication l = 2 * prefix (tree_at l.draft.now.trees l.goal)

abbrev pub decreases-glue_universal : goal.decreases-glue_universal
decreases-glue_universal l = 2 * prefix (tree_at l.draft.now.trees l.goal)
