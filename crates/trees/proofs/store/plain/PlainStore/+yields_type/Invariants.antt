use Rattle.trees.proofs.store.plain.PlainStore.+yields_type.Given as goal

abbrev pub decreases-yields_type : goal.decreases-yields_type
decreases-yields_type l = l.id.0
