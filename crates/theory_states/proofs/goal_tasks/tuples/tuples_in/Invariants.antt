use Rattle.std.proofs.Common.{◌≡◌, All}
use Rattle.tasks.specs.Meaning.{symbols_at, declarations_at, DeclHeld}
use Rattle.theory_states.proofs.goal_tasks.TuplesMade.{tuples_below}
use Rattle.theory_states.proofs.goal_tasks.tuples.tuples_in.Given as goal

abbrev pub invariant-loop-width : goal.invariant-loop-width
invariant-loop-width l = (declarations_at l.store l.out.items ≡ tuples_below (symbols_at l.store l.sig.symbols) l.found.keys l.width) × All (DeclHeld l.store) l.out.items
