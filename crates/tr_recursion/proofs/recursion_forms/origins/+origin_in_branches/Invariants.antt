use Rattle.tr_recursion.proofs.recursion_forms.origins.+origin_in_branches.Given as goal

abbrev pub decreases-origin_in_branches : goal.decreases-origin_in_branches
decreases-origin_in_branches l = l.arms.0
