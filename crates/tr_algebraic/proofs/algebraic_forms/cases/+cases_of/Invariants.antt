use Rattle.std.proofs.Common.{length}
use Rattle.tr_algebraic.proofs.algebraic_forms.cases.+cases_of.Given as goal

abbrev pub decreases-cases_of : goal.decreases-cases_of
decreases-cases_of l = length l.cons.now
