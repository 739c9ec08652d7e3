use Rattle.std.proofs.Common.{◌≡◌, ℕ, List, ◌++◌, length}
use Rattle.tasks.specs.trees.Node.{Grows}
use Rattle.step_reading.specs.Fed.{IsFed}
use Rattle.step_reading.proofs.feeding.feed_pieces.Given as goal

abbrev pub invariant-loop-rest : goal.invariant-loop-rest
invariant-loop-rest l = record {
  fed : (front : List ℕ) × (front ++ l.rest ≡ l.bytes) × IsFed l.store l.task l.names front l.reader;
  tallest : l.reader.tallest ≡ l.initial.reader.tallest;
  grows : Grows l.initial.store l.store;
}

abbrev pub decreases-loop-rest : goal.decreases-loop-rest
decreases-loop-rest l = length l.rest
