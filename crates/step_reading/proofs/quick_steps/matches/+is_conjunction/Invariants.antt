use Rattle.std.proofs.Common.{length}
use Rattle.step_reading.proofs.quick_steps.matches.+is_conjunction.Given as goal

abbrev pub decreases-is_conjunction : goal.decreases-is_conjunction
decreases-is_conjunction l = length l.formulas.now
