use Rattle.std.proofs.Common.{length}
use Rattle.tr_algebraic.proofs.algebraic_forms.decls.+push_formulas.Given as goal

abbrev pub decreases-push_formulas : goal.decreases-push_formulas
decreases-push_formulas l = length l.formulas.now
