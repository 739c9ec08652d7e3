use Rattle.tr_match.proofs.match_forms.forms.+if_form.Given as goal

abbrev pub decreases-if_form : goal.decreases-if_form
decreases-if_form g l = l.branches.0
