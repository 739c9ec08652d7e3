use Rattle.std.proofs.Common.{length}
use Rattle.open_types.proofs.patterns.+walk_later.Given as goal

abbrev pub decreases-walk_later : goal.decreases-walk_later
decreases-walk_later l = length l.list.now
