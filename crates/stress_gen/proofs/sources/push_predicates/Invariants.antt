use Rattle.std.proofs.Common.{◌≡◌, ◌++◌}
use Rattle.stress_gen.specs.Texts.{predicate_line, for_each}
use Rattle.stress_gen.proofs.sources.push_predicates.Given as goal

abbrev pub invariant-loop-i : goal.invariant-loop-i
invariant-loop-i l = l.text.items ≡ l.fn.text.items ++ for_each predicate_line l.i
