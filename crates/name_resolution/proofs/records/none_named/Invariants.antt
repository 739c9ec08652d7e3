use Rattle.std.proofs.Common.{◌≡◌, false, replicate}
use Rattle.name_resolution.proofs.records.none_named.Given as goal

abbrev pub invariant-loop-field : goal.invariant-loop-field
invariant-loop-field l = l.named ≡ replicate l._field false
