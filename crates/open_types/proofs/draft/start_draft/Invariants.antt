use Rattle.std.proofs.Common.{◌≡◌, length}
use Rattle.open_types.proofs.draft.start_draft.Given as goal

abbrev pub invariant-loop-own : goal.invariant-loop-own
invariant-loop-own l = length l.takers.items ≡ l._own
