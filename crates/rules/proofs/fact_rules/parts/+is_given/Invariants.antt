use Rattle.rules.proofs.fact_rules.parts.+is_given.Given as goal

abbrev pub decreases-is_given : goal.decreases-is_given
decreases-is_given l = l.clause.0
