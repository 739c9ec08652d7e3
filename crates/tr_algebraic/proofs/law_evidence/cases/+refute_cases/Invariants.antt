use Rattle.tr_algebraic.proofs.law_evidence.cases.+refute_cases.Given as goal

abbrev pub decreases-refute_cases : goal.decreases-refute_cases
decreases-refute_cases l = l.part.0
