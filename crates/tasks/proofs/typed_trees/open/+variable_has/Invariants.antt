use Rattle.tasks.proofs.typed_trees.open.+variable_has.Given as goal

abbrev pub decreases-variable_has : goal.decreases-variable_has
decreases-variable_has l = l.e.0
