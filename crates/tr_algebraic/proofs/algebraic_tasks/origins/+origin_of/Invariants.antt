use Rattle.std.proofs.Common.{length}
use Rattle.tr_algebraic.proofs.algebraic_tasks.origins.+origin_of.Given as goal

abbrev pub decreases-origin_of : goal.decreases-origin_of
decreases-origin_of l = length l.decls.now
