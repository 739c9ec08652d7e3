use Rattle.std.proofs.Common.{length}
use Rattle.checks.proofs.recursive_groups.+some_uses_by_number.Given as goal

abbrev pub decreases-some_uses_by_number : goal.decreases-some_uses_by_number
decreases-some_uses_by_number l = length l.defs.now
