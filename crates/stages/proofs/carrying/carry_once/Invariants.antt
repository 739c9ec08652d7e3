use Rattle.tasks.specs.trees.Node.{Grows}
use Rattle.stages.specs.transformations.Transformations.{equation_of}
use Rattle.stages.specs.Steps.{AreTasks}
use Rattle.stages.proofs.CarriedTasks.{SoFar, Each}
use Rattle.stages.proofs.carrying.carry_once.Given as goal

abbrev pub invariant-loop-i : goal.invariant-loop-i
invariant-loop-i l = record {
  grows : Grows l.initial.store l.store;
  are : AreTasks l.store l.all.items;
  so_far : SoFar (equation_of l.stage) l.initial.store l.tasks l.store l.all.items l.i;
  each : Each (equation_of l.stage) l.initial.store l.tasks l.store l.all.items l.counts.items l.i;
}
