use Rattle.std.proofs.Common.{List, take}
use Rattle.tasks.specs.trees.Tree.{Tree}
use Rattle.tasks.specs.Meaning.{symbols_at}
use Rattle.theory_states.specs.Meaning.{move_at, MoveHeld}
use Rattle.clones.specs.clone_copies.Moves.{move_mapped}
use Rattle.clones.proofs.Loops.{Copied}
use Rattle.clones.proofs.clone_copies.moves.map_moves.Given as goal

abbrev pub invariant-loop-step : goal.invariant-loop-step
invariant-loop-step l = (s : List Tree) → Copied move_at MoveHeld (move_mapped (symbols_at s l.sig.symbols)) l.morphism l.initial.store l.store l.known (take l.step-index l.moves) l.out.items
