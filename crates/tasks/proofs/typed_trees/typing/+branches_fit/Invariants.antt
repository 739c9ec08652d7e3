use Rattle.tasks.proofs.typed_trees.typing.+branches_fit.Given as goal

abbrev pub decreases-branches_fit : goal.decreases-branches_fit
decreases-branches_fit l = l.list.0
