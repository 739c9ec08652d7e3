use Rattle.std.proofs.Common.{length}
use Rattle.open_types.proofs.bound.+bind_typed.Given as goal

abbrev pub decreases-bind_typed : goal.decreases-bind_typed
decreases-bind_typed l = length l.names.now
