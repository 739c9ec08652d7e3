use Rattle.tasks.specs.Meaning.{TasksHeld}
use Rattle.kernel_tests.proofs.introduce.limits.compare.Given as goal

abbrev pub invariant-loop : goal.invariant-loop
invariant-loop g l = TasksHeld l.store l.tasks.items
