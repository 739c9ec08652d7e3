use Rattle.std.proofs.Common.{map, take}
use Rattle.name_tables.specs.Occurrences.{whole_occurrence}
use Rattle.name_tables.specs.Seen.{GainsKeys}
use Rattle.name_tables.proofs.things.add_wholes.Given as goal

abbrev pub invariant-loop-symbol : goal.invariant-loop-symbol
invariant-loop-symbol l = GainsKeys l.store l.initial.keys.keys (map whole_occurrence (take l.symbol-index l.symbols)) l.keys.keys
