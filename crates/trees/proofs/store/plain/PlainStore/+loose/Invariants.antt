use Rattle.trees.proofs.store.plain.PlainStore.+loose.Given as goal

abbrev pub decreases-loose : goal.decreases-loose
decreases-loose l = l.id.0
