use Rattle.tr_inline.proofs.lemmas.+lemma_at_terms.Given as goal

abbrev pub decreases-lemma_at_terms : goal.decreases-lemma_at_terms
decreases-lemma_at_terms l = l.terms.0
