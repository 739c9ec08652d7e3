use Rattle.kernel.specs.rules.Meaning.{StepsHeld}
use Rattle.kernel_tests.proofs.steps.premise_steps.Given as goal

abbrev pub invariant-loop-ids : goal.invariant-loop-ids
invariant-loop-ids g l = StepsHeld l.store l.steps
