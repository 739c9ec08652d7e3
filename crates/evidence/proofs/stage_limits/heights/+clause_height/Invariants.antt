use Rattle.std.proofs.Common.{length}
use Rattle.evidence.proofs.stage_limits.heights.+clause_height.Given as goal

abbrev pub decreases-clause_height : goal.decreases-clause_height
decreases-clause_height l = length l.inductives.now
