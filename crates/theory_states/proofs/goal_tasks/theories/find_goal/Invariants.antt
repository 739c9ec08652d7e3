use Rattle.std.proofs.Common.{◌≡◌, ◌≤◌, length, map, reverse, take}
use Rattle.std.specs.List.{find}
use Rattle.theory_states.specs.goal_tasks.Theories.{has_name}
use Rattle.theory_states.specs.goal_tasks.Meaning.{goal_at}
use Rattle.theory_states.proofs.goal_tasks.theories.find_goal.Given as goal

abbrev pub invariant-loop-left : goal.invariant-loop-left
invariant-loop-left l = record {
  within : l.left ≤ length l.goals;
  rest : find (has_name l.name) (reverse (map (goal_at l.store) (take l.left l.goals))) ≡ find (has_name l.name) (reverse (map (goal_at l.store) l.goals));
}

abbrev pub decreases-loop-left : goal.decreases-loop-left
decreases-loop-left l = l.left
