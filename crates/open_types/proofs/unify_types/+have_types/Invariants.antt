use Rattle.std.proofs.Common.{length}
use Rattle.open_types.proofs.unify_types.+have_types.Given as goal

abbrev pub decreases-have_types : goal.decreases-have_types
decreases-have_types l = length l.equations.now
