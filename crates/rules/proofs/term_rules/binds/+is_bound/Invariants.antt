use Rattle.rules.proofs.term_rules.binds.+is_bound.Given as goal

abbrev pub decreases-is_bound : goal.decreases-is_bound
decreases-is_bound l = l.pattern.0
