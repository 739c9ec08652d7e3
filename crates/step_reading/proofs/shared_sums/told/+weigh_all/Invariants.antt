use Rattle.std.proofs.Common.{length}
use Rattle.step_reading.proofs.shared_sums.told.+weigh_all.Given as goal

abbrev pub decreases-weigh_all : goal.decreases-weigh_all
decreases-weigh_all l = length l.uses.now
