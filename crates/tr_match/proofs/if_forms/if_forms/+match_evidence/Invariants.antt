use Rattle.tr_match.proofs.if_forms.if_forms.+match_evidence.Given as goal

abbrev pub decreases-match_evidence : goal.decreases-match_evidence
decreases-match_evidence l = l.form.0
