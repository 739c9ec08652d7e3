use Rattle.open_types.proofs.records.+push_terms.Given as goal

abbrev pub decreases-push_terms : goal.decreases-push_terms
decreases-push_terms l = l.list.0
