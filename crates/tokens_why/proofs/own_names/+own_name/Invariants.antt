use Rattle.std.proofs.Common.{length}
use Rattle.tokens_why.proofs.own_names.+own_name.Given as goal

abbrev pub decreases-is_lower_own : goal.decreases-is_lower_own
decreases-is_lower_own l = length l.name.now

abbrev pub decreases-is_lower_after_dot : goal.decreases-is_lower_after_dot
decreases-is_lower_after_dot l = length l.name.now
