use Rattle.std.proofs.Common.{◌≡◌, ◌++◌, map, drop}
use Rattle.name_tables.specs.Spelling.{clean_byte}
use Rattle.name_tables.proofs.spelling.push_rest.Given as goal

abbrev pub invariant-loop-byte : goal.invariant-loop-byte
invariant-loop-byte l = l.made.items ++ map clean_byte (drop l.byte-index l.rest) ≡ l.initial.made.items ++ map clean_byte l.rest
