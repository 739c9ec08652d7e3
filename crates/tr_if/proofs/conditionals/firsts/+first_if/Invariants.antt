use Rattle.tr_if.proofs.conditionals.firsts.+first_if.Given as goal

abbrev pub decreases-first_if : goal.decreases-first_if
decreases-first_if l = l.e.0
