use Rattle.tasks.specs.Meaning.{TaskHeld}
use Rattle.step_rows.proofs.files.put_files.Given as goal

abbrev pub invariant-loop-file : goal.invariant-loop-file
invariant-loop-file l = TaskHeld l.store l.task
