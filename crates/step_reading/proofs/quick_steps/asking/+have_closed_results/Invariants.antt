use Rattle.std.proofs.Common.{length}
use Rattle.step_reading.proofs.quick_steps.asking.+have_closed_results.Given as goal

abbrev pub decreases-have_closed_results : goal.decreases-have_closed_results
decreases-have_closed_results l = length l.symbols.now
