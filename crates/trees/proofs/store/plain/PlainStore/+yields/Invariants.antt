use Rattle.trees.proofs.store.plain.PlainStore.+yields.Given as goal

abbrev pub decreases-yields : goal.decreases-yields
decreases-yields l = l.id.0
