use Rattle.tr_if.proofs.conditionals.bindings.+has_let_or_match.Given as goal

abbrev pub decreases-has_let_or_match : goal.decreases-has_let_or_match
decreases-has_let_or_match l = l.e.0
