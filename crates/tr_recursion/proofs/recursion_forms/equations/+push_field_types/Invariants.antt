use Rattle.tr_recursion.proofs.recursion_forms.equations.+push_field_types.Given as goal

abbrev pub decreases-push_field_types : goal.decreases-push_field_types
decreases-push_field_types l = l.fields.0
