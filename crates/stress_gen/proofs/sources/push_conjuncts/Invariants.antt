use Rattle.std.proofs.Common.{◌≡◌, ◌++◌}
use Rattle.stress_gen.specs.Texts.{conjunct, for_each}
use Rattle.stress_gen.proofs.sources.push_conjuncts.Given as goal

abbrev pub invariant-loop-j : goal.invariant-loop-j
invariant-loop-j l = l.text.items ≡ l.fn.text.items ++ for_each conjunct l.j
