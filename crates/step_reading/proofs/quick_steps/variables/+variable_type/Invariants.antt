use Rattle.step_reading.proofs.quick_steps.variables.+variable_type.Given as goal

abbrev pub decreases-variable_type : goal.decreases-variable_type
decreases-variable_type l = l.pattern.0
