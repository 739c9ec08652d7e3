use Rattle.tasks.specs.Meaning.{TaskHeld}
use Rattle.step_rows.proofs.files.put_cuts.Given as goal

abbrev pub invariant-loop-k : goal.invariant-loop-k
invariant-loop-k l = TaskHeld l.store l.task
