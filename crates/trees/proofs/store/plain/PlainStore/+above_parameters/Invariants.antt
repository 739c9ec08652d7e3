use Rattle.trees.proofs.store.plain.PlainStore.+above_parameters.Given as goal

abbrev pub decreases-above_parameters : goal.decreases-above_parameters
decreases-above_parameters l = l.id.0
