use Rattle.std.proofs.Common.{◌≡◌, ◌++◌, drop}
use Rattle.std.specs.List.{flat_map}
use Rattle.name_tables.specs.Spelling.{spelt}
use Rattle.name_tables.proofs.spelling.push_spelt.Given as goal

abbrev pub invariant-loop-byte : goal.invariant-loop-byte
invariant-loop-byte l = l.made.items ++ flat_map spelt (drop l.byte-index l.name) ≡ l.initial.made.items ++ flat_map spelt l.name
