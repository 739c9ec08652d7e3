use Rattle.tr_recursion.proofs.recursion_forms.branches.+has_constructor.Given as goal

abbrev pub decreases-has_constructor : goal.decreases-has_constructor
decreases-has_constructor l = l.arms.0
