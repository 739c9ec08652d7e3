use Rattle.tr_discriminate.proofs.wanted_search.search.+may_fit.Given as goal

abbrev pub decreases-may_fit : goal.decreases-may_fit
decreases-may_fit l = l.e.0
