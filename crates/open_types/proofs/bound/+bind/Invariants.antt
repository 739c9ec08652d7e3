use Rattle.std.proofs.Common.{length}
use Rattle.open_types.proofs.bound.+bind.Given as goal

abbrev pub decreases-bind : goal.decreases-bind
decreases-bind l = length l.binders.now
