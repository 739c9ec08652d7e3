use Rattle.std.proofs.Common.{length}
use Rattle.stages.proofs.LiftedLevels.{IsLiftedSoFar}
use Rattle.stages.proofs.lifting.lift_levels.Given as goal

abbrev pub invariant-loop-level : goal.invariant-loop-level
invariant-loop-level l = IsLiftedSoFar l.stages l.initial.store l.fn.carried l.fn.parts.items l.store l.levels.items l.made.items l.lists.items

abbrev pub decreases-loop-level : goal.decreases-loop-level
decreases-loop-level l = length l.levels.items
