use Rattle.std.proofs.Common.{◌≡◌, replicate}
use Rattle.open_types.proofs.records.no_values.Given as goal

abbrev pub invariant-loop-field : goal.invariant-loop-field
invariant-loop-field l = l.items ≡ replicate l._field l.none
