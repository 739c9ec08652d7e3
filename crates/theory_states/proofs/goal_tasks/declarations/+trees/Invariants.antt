use Rattle.std.proofs.Common.{◌+◌, ◌*◌}
use Rattle.theory_states.proofs.goal_tasks.declarations.+trees.Given as goal

abbrev pub decreases-note_tree : goal.decreases-note_tree
decreases-note_tree l = 2 * l.e.0 + 1

abbrev pub decreases-note_parts : goal.decreases-note_parts
decreases-note_parts l = 2 * l.e.0
