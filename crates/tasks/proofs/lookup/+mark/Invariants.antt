use Rattle.std.proofs.Common.{length}
use Rattle.tasks.proofs.lookup.+mark.Given as goal

abbrev pub decreases-mark : goal.decreases-mark
decreases-mark l = length l.symbols.now
