use Rattle.checks.proofs.decl_checks.clauses.+is_positive.Given as goal

abbrev pub decreases-is_positive : goal.decreases-is_positive
decreases-is_positive l = l.e.0
