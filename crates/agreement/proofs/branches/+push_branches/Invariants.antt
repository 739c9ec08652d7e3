use Rattle.agreement.proofs.branches.+push_branches.Given as goal

abbrev pub decreases-push_branches : goal.decreases-push_branches
decreases-push_branches l = l.cases.arms.0
