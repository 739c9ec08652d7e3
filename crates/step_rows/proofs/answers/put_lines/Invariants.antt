use Rattle.tasks.specs.Meaning.{TaskHeld}
use Rattle.step_rows.specs.Read.{RowReadHeld}
use Rattle.step_rows.proofs.answers.put_lines.Given as goal

abbrev pub invariant-loop-line : goal.invariant-loop-line
invariant-loop-line l = record {
  task : TaskHeld l.store l.task;
  read : RowReadHeld l.store l.read;
}
