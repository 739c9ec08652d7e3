use Rattle.checks.proofs.decl_checks.clauses.+are_positive.Given as goal

abbrev pub decreases-are_positive : goal.decreases-are_positive
decreases-are_positive l = l.e.0
