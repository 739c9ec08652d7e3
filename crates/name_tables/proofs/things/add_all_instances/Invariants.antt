use Rattle.std.proofs.Common.{take}
use Rattle.std.specs.List.{flat_map}
use Rattle.name_tables.specs.Groups.{instances_in}
use Rattle.name_tables.specs.Seen.{GainsKeys}
use Rattle.name_tables.proofs.things.add_all_instances.Given as goal

abbrev pub invariant-loop-symbol : goal.invariant-loop-symbol
invariant-loop-symbol l = GainsKeys l.store l.initial.keys.keys (flat_map (instances_in l.store l.ints l.groups) (take l.symbol-index l.symbols)) l.keys.keys
