use Rattle.std.proofs.Common.{◌+◌, ◌*◌}
use Rattle.step_reading.proofs.quick_steps.parameters.+occurrence.Given as goal

abbrev pub decreases-has_param : goal.decreases-has_param
decreases-has_param l = 2 * l.e.0 + 1

abbrev pub decreases-has_param_inside : goal.decreases-has_param_inside
decreases-has_param_inside l = 2 * l.e.0
