use Rattle.tr_algebraic.proofs.algebraic_forms.terms.+type_variables.Given as goal

abbrev pub decreases-type_variables : goal.decreases-type_variables
decreases-type_variables l = l.many
