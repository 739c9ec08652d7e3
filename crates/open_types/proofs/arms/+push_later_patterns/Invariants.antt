use Rattle.std.proofs.Common.{length}
use Rattle.open_types.proofs.arms.+push_later_patterns.Given as goal

abbrev pub decreases-push_later_patterns : goal.decreases-push_later_patterns
decreases-push_later_patterns l = length l.later.now
