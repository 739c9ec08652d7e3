use Rattle.evidence.specs.Laws.{Extends_trans}
use Rattle.congruence.proofs.cases.under.Goals as goal

pub returns-in_ok-lemma-in-Term-clause-grows : goal.returns-in_ok-lemma-in-Term-clause-grows
returns-in_ok-lemma-in-Term-clause-grows c = Extends_trans _ _ _ c.in_ok-lemma-in-Term.ensures.grows c.under_terms.ensures.grows
