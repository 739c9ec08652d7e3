use Rattle.std.proofs.Common.{length}
use Rattle.tr_algebraic.proofs.algebraic_forms.decls.+push_laws.Given as goal

abbrev pub decreases-push_laws : goal.decreases-push_laws
decreases-push_laws l = length l.types.now
