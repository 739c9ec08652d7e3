use Rattle.std.proofs.Common.{ℕ, ◌<◌, take}
use Rattle.kernel.specs.Right.{IsRight}
use Rattle.rules.specs.Trees.{step_or}
use Rattle.tasks.specs.Meaning.{task_at}
use Rattle.rules.specs.Meaning.{steps_at}
use Rattle.kernel.proofs.steps.first_wrong.Given as goal

abbrev pub invariant-loop-i : goal.invariant-loop-i
invariant-loop-i l = let steps = steps_at l.store l.steps in
    (j : ℕ) → j < l.i → IsRight (task_at l.store l.task) (take j steps) (step_or steps j)
