use Rattle.tr_recursion.proofs.constructor_matches.matches.+alike_branches.Given as goal

abbrev pub decreases-alike_branches : goal.decreases-alike_branches
decreases-alike_branches l = l.arms.0
