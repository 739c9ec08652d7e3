use Rattle.std.proofs.Common.{◌≡◌, ◌+◌, length}
use Rattle.std.specs.List.{range_with_len}
use Rattle.theory_states.proofs.goal_tasks.tuples.numbers.Given as goal

abbrev pub invariant-loop-number : goal.invariant-loop-number
invariant-loop-number l = (l.all.items ≡ range_with_len l.from (length l.all.items)) × (l.from + length l.all.items ≡ l.number)
