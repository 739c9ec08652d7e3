use Rattle.std.proofs.Common.{◌≡◌, ◌++◌, drop}
use Rattle.stress_gen.specs.Texts.{filled}
use Rattle.stress_gen.proofs.templates.push_filled.Given as goal

abbrev pub invariant-loop-byte : goal.invariant-loop-byte
invariant-loop-byte l = l.text.items ++ filled (drop l.byte-index l.template) (drop l.used l.numbers) ≡ l.initial.text.items ++ filled l.template l.numbers
