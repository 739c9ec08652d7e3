use Rattle.trees.proofs.store.plain.PlainStore.+height.Given as goal

abbrev pub decreases-height : goal.decreases-height
decreases-height l = l.id.0
