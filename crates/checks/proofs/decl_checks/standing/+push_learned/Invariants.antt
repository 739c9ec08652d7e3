use Rattle.checks.proofs.decl_checks.standing.+push_learned.Given as goal

abbrev pub decreases-push_learned : goal.decreases-push_learned
decreases-push_learned l = l.pattern.0
