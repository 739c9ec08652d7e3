use Rattle.tasks.proofs.typed_trees.typing.+is_typed_under.Given as goal

abbrev pub decreases-is_typed_under : goal.decreases-is_typed_under
decreases-is_typed_under l = l.e.0
