use Rattle.trees.proofs.store.plain.PlainStore.+pattern_variables.Given as goal

abbrev pub decreases-pattern_variables : goal.decreases-pattern_variables
decreases-pattern_variables l = l.id.0
