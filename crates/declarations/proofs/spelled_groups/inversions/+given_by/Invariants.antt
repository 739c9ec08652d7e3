use Rattle.declarations.proofs.spelled_groups.inversions.+given_by.Given as goal

abbrev pub decreases-given_by : goal.decreases-given_by
decreases-given_by l = l.clause.0
