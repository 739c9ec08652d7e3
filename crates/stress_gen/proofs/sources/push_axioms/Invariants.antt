use Rattle.std.proofs.Common.{◌≡◌, ◌++◌}
use Rattle.stress_gen.specs.Texts.{chain_axiom, for_each}
use Rattle.stress_gen.proofs.sources.push_axioms.Given as goal

abbrev pub invariant-loop-j : goal.invariant-loop-j
invariant-loop-j l = l.text.items ≡ l.fn.text.items ++ for_each chain_axiom l.j
