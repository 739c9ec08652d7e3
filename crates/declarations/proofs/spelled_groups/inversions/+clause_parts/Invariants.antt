use Rattle.declarations.proofs.spelled_groups.inversions.+clause_parts.Given as goal

abbrev pub decreases-clause_parts : goal.decreases-clause_parts
decreases-clause_parts l = l.clause.0
