use Rattle.std.proofs.Common.{length}
use Rattle.open_types.proofs.bound.+quantify.Given as goal

abbrev pub decreases-quantify : goal.decreases-quantify
decreases-quantify l = length l.bound.now
