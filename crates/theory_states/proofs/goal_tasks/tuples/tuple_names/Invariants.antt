use Rattle.std.proofs.Common.{◌≡◌, ℕ, List, drop}
use Rattle.trees.specs.Tree.{Tree}
use Rattle.tasks.specs.Meaning.{symbols_at}
use Rattle.theory_states.specs.goal_tasks.Tuples.{symbol_of_width}
use Rattle.tasks.specs.Entries.{tuple_from, tuple_in}
use Rattle.theory_states.proofs.goal_tasks.TupleNames.{or_number}
use Rattle.theory_states.proofs.goal_tasks.tuples.tuple_names.Given as goal

abbrev pub invariant-loop-symbol : goal.invariant-loop-symbol
invariant-loop-symbol l = (s : List Tree) (n : ℕ) → or_number (symbol_of_width l.names.items n) (tuple_from n l.symbol (symbols_at s (drop l.symbol l.symbols))) ≡ tuple_in (symbols_at s l.symbols) n
