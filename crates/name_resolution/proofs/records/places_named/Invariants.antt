use Rattle.std.proofs.Common.{◌≡◌, ◌++◌, length, List}
use Rattle.tasks.specs.trees.Tree.{Tree}
use Rattle.tasks.specs.Meaning.{symbols_at}
use Rattle.name_resolution.specs.Naming.{fields_at, symbol_named}
use Rattle.name_resolution.specs.Records.{places_named}
use Rattle.name_resolution.proofs.records.places_named.Given as goal

abbrev pub invariant-loop-name : goal.invariant-loop-name
invariant-loop-name l = (s : List Tree) → l.places.items ++ places_named (symbols_at s l.world.symbols.now) (symbol_named l.world.scope.now) l.owner (fields_at l.left)
    ≡ places_named (symbols_at s l.world.symbols.now) (symbol_named l.world.scope.now) l.owner (fields_at l.fields)

abbrev pub decreases-loop-name : goal.decreases-loop-name
decreases-loop-name l = length (fields_at l.left)
