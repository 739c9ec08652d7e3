use Rattle.std.proofs.Common.{length}
use Rattle.tr_algebraic.proofs.algebraic_tasks.refusal.+refused_place.Given as goal

abbrev pub decreases-refused_place : goal.decreases-refused_place
decreases-refused_place l = length l.decls.now
