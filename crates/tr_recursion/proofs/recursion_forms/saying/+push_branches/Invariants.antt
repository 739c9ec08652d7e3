use Rattle.tr_recursion.proofs.recursion_forms.saying.+push_branches.Given as goal

abbrev pub decreases-push_branches : goal.decreases-push_branches
decreases-push_branches l = l.arms.0
