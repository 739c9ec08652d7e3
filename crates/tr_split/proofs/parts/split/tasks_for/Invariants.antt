use Rattle.std.proofs.Common.{◌≡◌, map, take}
use Rattle.tasks.specs.Copying.{with_goal}
use Rattle.tasks.specs.Meaning.{trees_at, task_at, tasks_at, TasksHeld}
use Rattle.tr_split.proofs.parts.split.tasks_for.Given as goal

abbrev pub invariant-loop-goal : goal.invariant-loop-goal
invariant-loop-goal l = record {
  held : TasksHeld l.store l.tasks.items;
  tasks : tasks_at l.store l.tasks.items ≡ map (with_goal (task_at l.store l.task)) (trees_at l.store (take l.goal-index l.goals));
}
