use Rattle.tr_recursion.proofs.constructor_matches.fields.+push_bound.Given as goal

abbrev pub decreases-push_bound : goal.decreases-push_bound
decreases-push_bound l = l.patterns.0
