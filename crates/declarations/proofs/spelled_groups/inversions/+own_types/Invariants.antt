use Rattle.declarations.proofs.spelled_groups.inversions.+own_types.Given as goal

abbrev pub decreases-own_types : goal.decreases-own_types
decreases-own_types l = l.many
