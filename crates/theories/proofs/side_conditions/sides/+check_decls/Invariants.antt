use Rattle.std.proofs.Common.{length}
use Rattle.theories.proofs.side_conditions.sides.+check_decls.Given as goal

abbrev pub decreases-check_decls : goal.decreases-check_decls
decreases-check_decls l = length l.decls.now
