use Rattle.std.proofs.Common.{length}
use Rattle.step_reading.proofs.shared_sums.told.+add_all.Given as goal

abbrev pub decreases-add_all : goal.decreases-add_all
decreases-add_all l = length l.uses.now
