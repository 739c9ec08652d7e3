use Rattle.trees.proofs.binders.instances.+is_changed_under.Given as goal

abbrev pub decreases-is_changed_under : goal.decreases-is_changed_under
decreases-is_changed_under g l = l.e.0
