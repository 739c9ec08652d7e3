use Rattle.std.proofs.Common.{ℕ, List, ◌++◌, take}
use Rattle.tasks.specs.trees.Node.{Grows}
use Rattle.tasks.specs.Meaning.{task_at}
use Rattle.step_reading.specs.Fed.{AreBytesRead}
use Rattle.step_reading.proofs.ended.read_piece.Given as goal

abbrev pub invariant-loop-i : goal.invariant-loop-i
invariant-loop-i l = record {
  grows : Grows l.fn.store l.store;
  read : (bytes : List ℕ) → AreBytesRead (task_at l.fn.store l.x.task.now) l.x.table.now l.x.tallest l.fn.store bytes l.fn.lines
      → AreBytesRead (task_at l.fn.store l.x.task.now) l.x.table.now l.x.tallest l.store (bytes ++ take l.i l.piece) l.lines;
}
