use Rattle.trees.proofs.binders.+has_param.Given as goal

abbrev pub decreases-has_param : goal.decreases-has_param
decreases-has_param l = l.e.0
