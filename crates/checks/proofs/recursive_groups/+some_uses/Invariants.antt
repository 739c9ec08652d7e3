use Rattle.std.proofs.Common.{length}
use Rattle.checks.proofs.recursive_groups.+some_uses.Given as goal

abbrev pub decreases-some_uses : goal.decreases-some_uses
decreases-some_uses l = length l.defs.now
