use Rattle.tr_recursion.proofs.recursion_forms.branches.+has_parameter.Given as goal

abbrev pub decreases-has_parameter : goal.decreases-has_parameter
decreases-has_parameter l = l.equation.0
