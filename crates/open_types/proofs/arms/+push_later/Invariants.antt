use Rattle.std.proofs.Common.{length}
use Rattle.open_types.proofs.arms.+push_later.Given as goal

abbrev pub decreases-push_later : goal.decreases-push_later
decreases-push_later l = length l.later.now
