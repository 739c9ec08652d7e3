use Rattle.std.proofs.Common.{take}
use Rattle.step_writing.specs.Words.{PushesNumbers}
use Rattle.step_writing.proofs.words.push_numbers.Given as goal

abbrev pub invariant-loop-number : goal.invariant-loop-number
invariant-loop-number l = PushesNumbers l.initial.text.items l.text.items (take l.number-index l.numbers)
