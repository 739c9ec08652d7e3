use Rattle.tr_discriminate.proofs.types.+find_types.Given as goal

abbrev pub decreases-find_types : goal.decreases-find_types
decreases-find_types l = l.a.0
