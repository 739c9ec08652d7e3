use Rattle.checks.proofs.decl_checks.clauses.+conclusion.Given as goal

abbrev pub decreases-conclusion : goal.decreases-conclusion
decreases-conclusion l = l.e.0
