use Rattle.tr_recursion.proofs.recursion_forms.branches.+are_branches.Given as goal

abbrev pub decreases-are_branches : goal.decreases-are_branches
decreases-are_branches l = l.arms.0
