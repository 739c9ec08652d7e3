use Rattle.trees.proofs.store.plain.PlainStore.+above_type_variables.Given as goal

abbrev pub decreases-above_type_variables : goal.decreases-above_type_variables
decreases-above_type_variables l = l.id.0
