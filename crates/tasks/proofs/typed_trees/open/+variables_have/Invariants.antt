use Rattle.tasks.proofs.typed_trees.open.+variables_have.Given as goal

abbrev pub decreases-variables_have : goal.decreases-variables_have
decreases-variables_have l = l.pattern.0
