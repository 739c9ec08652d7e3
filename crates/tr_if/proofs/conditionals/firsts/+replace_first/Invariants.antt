use Rattle.tr_if.proofs.conditionals.firsts.+replace_first.Given as goal

abbrev pub decreases-replace_first : goal.decreases-replace_first
decreases-replace_first g l = l.e.0
