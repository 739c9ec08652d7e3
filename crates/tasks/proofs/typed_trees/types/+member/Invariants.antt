use Rattle.tasks.proofs.typed_trees.types.+member.Given as goal

abbrev pub decreases-member : goal.decreases-member
decreases-member l = l.list.0
