use Rattle.std.proofs.Common.{map, take}
use Rattle.tasks.specs.trees.Node.{Grows}
use Rattle.tasks.specs.Meaning.{task_at, tasks_at}
use Rattle.stages.specs.transformations.Transformations.{equation_of}
use Rattle.stages.specs.Carried.{carried_task}
use Rattle.stages.specs.Levels.{IsCarried}
use Rattle.stages.proofs.CarriedTasks.{Left}
use Rattle.stages.proofs.carrying.carry.Given as goal

abbrev pub invariant-loop-number : goal.invariant-loop-number
invariant-loop-number l = record {
  grows : Grows l.initial.store l.store;
  carried : IsCarried (map equation_of (take l.number l.stages)) l.store (task_at l.initial.store l.task) l.levels.items l.tasks.items;
  left : Left l.stages (carried_task (map equation_of l.stages) (task_at l.initial.store l.task)) l.number (tasks_at l.store l.tasks.items);
}
