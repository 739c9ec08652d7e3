use Rattle.std.proofs.Common.{◌≡◌, map, take}
use Rattle.program.specs.source_goals.Known.{theory_in, named_bytes}
use Rattle.program.proofs.source_goals.known.known_theories.Given as goal

abbrev pub invariant-loop-at : goal.invariant-loop-at
invariant-loop-at l = map named_bytes l.known.items ≡ map (theory_in l.decls) (take l.at l.list)
