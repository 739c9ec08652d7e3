use Rattle.std.proofs.Common.{length}
use Rattle.rules.proofs.term_rules.data.+adds_equations.Given as goal

abbrev pub decreases-adds_equations : goal.decreases-adds_equations
decreases-adds_equations l = length l.sequent.now
