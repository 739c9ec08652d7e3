use Rattle.trees.proofs.binders.+occurs.Given as goal

abbrev pub decreases-occurs : goal.decreases-occurs
decreases-occurs l = l.e.0
