use Rattle.std.proofs.Common.{◌≡◌, ◌++◌, drop}
use Rattle.statuses.specs.Lines.{spaced_numbers}
use Rattle.statuses.proofs.lines.push_numbers.Given as goal

abbrev pub invariant-loop-number : goal.invariant-loop-number
invariant-loop-number l = l.text.items ++ spaced_numbers (drop l.number-index l.numbers) ≡ l.initial.text.items ++ spaced_numbers l.numbers
