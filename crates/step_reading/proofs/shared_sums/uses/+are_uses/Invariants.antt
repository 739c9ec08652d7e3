use Rattle.std.proofs.Common.{length}
use Rattle.step_reading.proofs.shared_sums.uses.+are_uses.Given as goal

abbrev pub decreases-are_uses : goal.decreases-are_uses
decreases-are_uses l = length l.uses.now
