use Rattle.rules.proofs.term_rules.data.+are_equations.Given as goal

abbrev pub decreases-are_equations : goal.decreases-are_equations
decreases-are_equations l = l.ts.0
