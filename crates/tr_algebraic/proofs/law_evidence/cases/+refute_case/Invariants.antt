use Rattle.tr_algebraic.proofs.law_evidence.cases.+refute_case.Given as goal

abbrev pub decreases-refute_case : goal.decreases-refute_case
decreases-refute_case l = l.whole.0
