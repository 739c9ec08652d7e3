use Rattle.rules.proofs.fact_rules.parts.+are_parts.Given as goal

abbrev pub decreases-are_parts : goal.decreases-are_parts
decreases-are_parts l = l.clause.0
