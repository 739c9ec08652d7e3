use Rattle.std.proofs.Common.{◌≡◌, drop, reverse}
use Rattle.tasks.specs.trees.Node.{Grows}
use Rattle.evidence.specs.Stages.{PartsHeld}
use Rattle.stages.specs.transformations.Transformations.{equation_of}
use Rattle.stages.proofs.NextTask.{Far}
use Rattle.stages.proofs.lifting.lift_level.Given as goal

abbrev pub invariant-loop-i : goal.invariant-loop-i
invariant-loop-i l = record {
  grows : Grows l.initial.store l.store;
  held : PartsHeld l.store l.lists.items;
  rest : reverse l.left.items ≡ drop l.used l.fn.made.items;
  so_far : Far (equation_of l.stage) l.initial.store l.store l.tasks l.counts l.fn.made.items l.parts l.i l.used l.lists.items;
}
