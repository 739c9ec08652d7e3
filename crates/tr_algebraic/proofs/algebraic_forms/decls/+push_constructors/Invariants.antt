use Rattle.std.proofs.Common.{length}
use Rattle.tr_algebraic.proofs.algebraic_forms.decls.+push_constructors.Given as goal

abbrev pub decreases-push_constructors : goal.decreases-push_constructors
decreases-push_constructors l = length l.cons.now
