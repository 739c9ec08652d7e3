use Rattle.std.proofs.Common.{◌+◌, ◌*◌}
use Rattle.step_reading.proofs.quick_steps.variables.+visiting.Given as goal

abbrev pub decreases-variables_have : goal.decreases-variables_have
decreases-variables_have l = 2 * l.e.0 + 1

abbrev pub decreases-variables_have_inside : goal.decreases-variables_have_inside
decreases-variables_have_inside l = 2 * l.e.0
