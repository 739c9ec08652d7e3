use Rattle.std.proofs.Common.{ℕ, ◌<◌, get_or}
use Rattle.step_reading.proofs.quick_steps.ready.are_earlier.Given as goal

abbrev pub invariant-loop-k : goal.invariant-loop-k
invariant-loop-k l = (i : ℕ) → i < l.k-index → get_or l.premises i 0 < l.count
