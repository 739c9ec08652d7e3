use Rattle.std.proofs.Common.{◌≡◌, map, take}
use Rattle.clones.specs.Meaning.{map_at}
use Rattle.clones.proofs.copies.map_symbols.Given as goal

abbrev pub invariant-loop-symbol : goal.invariant-loop-symbol
invariant-loop-symbol l = l.out.items ≡ map (map_at l.store l.morphism).symbols (take l.symbol-index l.symbols)
