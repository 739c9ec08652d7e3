use Rattle.std.proofs.Common.{◌≡◌, ◌++◌, drop}
use Rattle.drivers.specs.driver_tokens.Strings.{bytes_said, string_says}
use Rattle.drivers.proofs.driver_tokens.strings.string_value.Given as goal

abbrev pub invariant-loop-byte : goal.invariant-loop-byte
invariant-loop-byte l = l.value.items ++ bytes_said l.escaped (drop l.byte-index l.inside) ≡ string_says l.inside
