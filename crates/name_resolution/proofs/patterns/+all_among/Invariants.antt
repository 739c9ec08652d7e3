use Rattle.std.proofs.Common.{length}
use Rattle.name_resolution.proofs.patterns.+all_among.Given as goal

abbrev pub decreases-all_among : goal.decreases-all_among
decreases-all_among l = length l.names.now
