use Rattle.checks.proofs.decl_checks.standing.+push_parameters.Given as goal

abbrev pub decreases-push_parameters : goal.decreases-push_parameters
decreases-push_parameters l = l.count
