use Rattle.tr_recursion.proofs.recursion_forms.branches.+below_quantifiers.Given as goal

abbrev pub decreases-below_quantifiers : goal.decreases-below_quantifiers
decreases-below_quantifiers l = l.equation.0
