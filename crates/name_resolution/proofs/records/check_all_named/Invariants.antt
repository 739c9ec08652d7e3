use Rattle.std.proofs.Common.{◌≡◌, length, List}
use Rattle.tasks.specs.trees.Tree.{Tree}
use Rattle.tasks.specs.Meaning.{symbols_at}
use Rattle.name_resolution.specs.Faults.{fields_fault}
use Rattle.name_resolution.specs.Naming.{fields_at, symbol_named}
use Rattle.name_resolution.specs.Records.{places_named, named_after}
use Rattle.name_resolution.proofs.records.check_all_named.Given as goal

abbrev pub invariant-loop-name : goal.invariant-loop-name
invariant-loop-name l = ((s : List Tree) → fields_fault (symbols_at s l.world.symbols.now) (symbol_named l.world.scope.now) l.owner l.named (fields_at l.left)
    ≡ fields_fault (symbols_at s l.world.symbols.now) (symbol_named l.world.scope.now) l.owner l.fn.named (fields_at l.fields))
    × ((s : List Tree) → named_after (places_named (symbols_at s l.world.symbols.now) (symbol_named l.world.scope.now) l.owner (fields_at l.left)) l.named
    ≡ named_after (places_named (symbols_at s l.world.symbols.now) (symbol_named l.world.scope.now) l.owner (fields_at l.fields)) l.fn.named)

abbrev pub decreases-loop-name : goal.decreases-loop-name
decreases-loop-name l = length (fields_at l.left)
