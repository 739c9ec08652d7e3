use Rattle.tasks.specs.trees.Node.{Grows}
use Rattle.elab_groups.specs.parts.Values.{AreSolutionValues}
use Rattle.elab_groups.proofs.parts.solution.determine_types.Given as goal

abbrev pub invariant-loop-number : goal.invariant-loop-number
invariant-loop-number l = Grows l.fn.store l.store × AreSolutionValues l.store l.rigid l.solution l.number l.types.items
