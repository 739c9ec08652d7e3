use Rattle.tr_recursion.proofs.recursion_forms.equations.+push_bound.Given as goal

abbrev pub decreases-push_bound : goal.decreases-push_bound
decreases-push_bound l = l.fields.0
