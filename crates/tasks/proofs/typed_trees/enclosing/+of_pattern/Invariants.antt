use Rattle.tasks.proofs.typed_trees.enclosing.+of_pattern.Given as goal

abbrev pub decreases-of_pattern : goal.decreases-of_pattern
decreases-of_pattern l = l.pattern.0
