use Rattle.checks.proofs.decl_checks.clauses.+rule.Given as goal

abbrev pub decreases-rule : goal.decreases-rule
decreases-rule l = l.clause.0
