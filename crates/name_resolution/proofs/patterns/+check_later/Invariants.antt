use Rattle.std.proofs.Common.{length}
use Rattle.name_resolution.proofs.patterns.+check_later.Given as goal

abbrev pub decreases-check_later : goal.decreases-check_later
decreases-check_later l = length l.list.now
