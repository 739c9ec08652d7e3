use Rattle.std.proofs.Common.{◌≡◌, All, take}
use Rattle.std.specs.Prelude.{flat_map}
use Rattle.kernel.specs.trees.Node.{Holds}
use Rattle.kernel.specs.tasks.Meaning.{trees_at}
use Rattle.kernel.specs.rules.Meaning.{steps_at}
use Rattle.step_writing.specs.Named.{step_trees}
use Rattle.step_writing.proofs.roots.step_roots.Given as goal

abbrev pub invariant-loop-step : goal.invariant-loop-step
invariant-loop-step l = record {
  trees : trees_at l.store l.roots.items ≡ flat_map step_trees (steps_at l.store (take l.step-index l.steps));
  held : All (Holds l.store) l.roots.items;
}
