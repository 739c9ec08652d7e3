use Rattle.std.proofs.Common.{take}
use Rattle.step_writing.specs.tree_writing.Referring.{words_of, PushesNumbers}
use Rattle.step_writing.proofs.tree_writing.referring.push_numbers.Given as goal

abbrev pub invariant-loop-number : goal.invariant-loop-number
invariant-loop-number l = record {
  pushed : PushesNumbers (words_of l.fn.words.items) (words_of l.words.items) (take l.number-index l.numbers);
}
