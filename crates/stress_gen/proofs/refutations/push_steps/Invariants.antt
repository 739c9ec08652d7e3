use Rattle.std.proofs.Common.{◌≡◌, ◌++◌}
use Rattle.stress_gen.specs.Texts.{first_steps, next_steps, for_each}
use Rattle.stress_gen.proofs.refutations.push_steps.Given as goal

abbrev pub invariant-loop-j : goal.invariant-loop-j
invariant-loop-j l = l.text.items ≡ (l.fn.text.items ++ first_steps l.part) ++ for_each (next_steps l.part) l.j
