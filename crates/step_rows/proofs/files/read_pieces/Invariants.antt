use Rattle.std.proofs.Common.{ℕ, List}
use Rattle.tasks.specs.Meaning.{TaskHeld}
use Rattle.step_writing.specs.step_reading.Fed.{IsFed}
use Rattle.step_rows.proofs.files.read_pieces.Given as goal

abbrev pub invariant-loop-piece : goal.invariant-loop-piece
invariant-loop-piece l = record {
  task : TaskHeld l.store l.task;
  fed : (bytes : List ℕ) × IsFed l.store l.task l.table bytes l.reader;
}
