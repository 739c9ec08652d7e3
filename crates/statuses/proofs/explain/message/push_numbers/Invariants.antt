use Rattle.std.proofs.Common.{◌≡◌, ◌++◌, drop}
use Rattle.statuses.specs.explain.Message.{spaced_words}
use Rattle.statuses.proofs.explain.message.push_numbers.Given as goal

abbrev pub invariant-loop-number : goal.invariant-loop-number
invariant-loop-number l = l.text.items ++ spaced_words (drop l.number-index l.numbers) ≡ l.initial.text.items ++ spaced_words l.numbers
