use Rattle.tasks.proofs.typed_trees.types.+has_members.Given as goal

abbrev pub decreases-has_members : goal.decreases-has_members
decreases-has_members l = l.list.0
