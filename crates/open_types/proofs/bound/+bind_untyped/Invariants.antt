use Rattle.std.proofs.Common.{length}
use Rattle.open_types.proofs.bound.+bind_untyped.Given as goal

abbrev pub decreases-bind_untyped : goal.decreases-bind_untyped
decreases-bind_untyped l = length l.names.now
