use Rattle.std.proofs.Common.{◌≡◌, ◌++◌, List, drop}
use Rattle.trees.specs.Tree.{Tree}
use Rattle.tasks.specs.Task.{made}
use Rattle.tasks.specs.Meaning.{declarations_at}
use Rattle.name_tables.proofs.things.declared_in.Given as goal

abbrev pub invariant-loop-decl : goal.invariant-loop-decl
invariant-loop-decl l =
    (s : List Tree) → l.symbols.items ++ made (declarations_at s (drop l.decl-index l.decl-items)) ≡ l.initial.symbols.items ++ made (declarations_at s l.decl-items)
