use Rattle.tasks.specs.Meaning.{TaskHeld}
use Rattle.step_rows.proofs.files.put_answers.Given as goal

abbrev pub invariant-loop-line : goal.invariant-loop-line
invariant-loop-line l = TaskHeld l.store l.task
