use Rattle.std.proofs.Common.{length}
use Rattle.checks.proofs.decl_checks.values.+next_valued.Given as goal

abbrev pub decreases-next_valued : goal.decreases-next_valued
decreases-next_valued l = length l.types.now
