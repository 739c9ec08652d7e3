use Rattle.tr_simplify.proofs.opening.+is_open.Given as goal

abbrev pub decreases-is_open : goal.decreases-is_open
decreases-is_open l = l.e.0
