use Rattle.std.proofs.Common.{◌+◌, ◌*◌}
use Rattle.tasks.specs.trees.Node.{tree_at}
use Rattle.tr_split.specs.Goals.{splits}
use Rattle.tr_split.proofs.gluing.+glue.Given as goal

abbrev pub decreases-glue_goal : goal.decreases-glue_goal
decreases-glue_goal l = 5 * splits (tree_at l.draft.now.trees l.goal) + 3

abbrev pub decreases-glue_joined : goal.decreases-glue_joined
decreases-glue_joined l = 5 * splits (tree_at l.draft.now.trees l.goal) + 2

abbrev pub decreases-glue_and : goal.decreases-glue_and
decreases-glue_and l = 5 * splits (tree_at l.draft.now.trees l.goal) + 1

abbrev pub decreases-glue_two : goal.decreases-glue_two
decreases-glue_two l = 5 * (splits (tree_at l.draft.now.trees l.a) + splits (tree_at l.draft.now.trees l.b)) + 4

abbrev pub decreases-glue_and_then : goal.decreases-glue_and_then
decreases-glue_and_then l = 5 * splits (tree_at l.draft.now.trees l.goal) + 1

abbrev pub decreases-glue_imp : goal.decreases-glue_imp
decreases-glue_imp l = 5 * splits (tree_at l.draft.now.trees l.goal) + 1

abbrev pub decreases-glue_forall : goal.decreases-glue_forall
decreases-glue_forall l = 5 * splits (tree_at l.draft.now.trees l.goal) + 1

abbrev pub decreases-glue_let : goal.decreases-glue_let
decreases-glue_let l = 5 * splits (tree_at l.draft.now.trees l.goal) + 1

abbrev pub decreases-glue_if : goal.decreases-glue_if
decreases-glue_if l = 5 * splits (tree_at l.draft.now.trees l.goal) + 1
