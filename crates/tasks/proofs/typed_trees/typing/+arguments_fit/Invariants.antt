use Rattle.tasks.proofs.typed_trees.typing.+arguments_fit.Given as goal

abbrev pub decreases-arguments_fit : goal.decreases-arguments_fit
decreases-arguments_fit l = l.arguments.0
