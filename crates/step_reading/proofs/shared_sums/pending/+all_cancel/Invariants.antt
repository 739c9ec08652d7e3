use Rattle.step_reading.specs.shared_sums.Pending.{above_numbers}
use Rattle.step_reading.proofs.shared_sums.pending.+all_cancel.Given as goal

abbrev pub decreases-all_cancel : goal.decreases-all_cancel
decreases-all_cancel l = above_numbers l.pending.now.multiples.entries
