use Rattle.open_types.proofs.unify_types.merging.+root.Given as goal

abbrev pub decreases-root : goal.decreases-root
decreases-root l = l.steps
