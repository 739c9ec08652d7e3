use Rattle.std.proofs.Common.{◌≡◌, List, drop}
use Rattle.trees.specs.Tree.{Tree}
use Rattle.tasks.specs.Meaning.{symbols_at}
use Rattle.tasks.specs.Entries.{tuple_from, tuple_in}
use Rattle.tasks.proofs.tuples.tuple_among.Given as goal

abbrev pub invariant-loop-number : goal.invariant-loop-number
invariant-loop-number l = (s : List Tree) → tuple_from l.width l.number (symbols_at s (drop l.number l.symbols)) ≡ tuple_in (symbols_at s l.symbols) l.width
