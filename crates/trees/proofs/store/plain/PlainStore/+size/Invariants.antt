use Rattle.trees.proofs.store.plain.PlainStore.+size.Given as goal

abbrev pub decreases-size : goal.decreases-size
decreases-size l = l.id.0
