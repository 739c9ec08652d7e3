use Rattle.std.proofs.Common.{◌≡◌, drop}
use Rattle.outside.specs.Calls.{taken_by}
use Rattle.outside.proofs.memory.failing_at.Given as goal

abbrev pub invariant-loop-number : goal.invariant-loop-number
invariant-loop-number l = taken_by (drop l.number-index l.failing) l.call ≡ taken_by l.failing l.call
