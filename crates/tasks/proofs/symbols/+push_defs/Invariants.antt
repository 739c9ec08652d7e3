use Rattle.std.proofs.Common.{length}
use Rattle.tasks.proofs.symbols.+push_defs.Given as goal

abbrev pub decreases-push_defs : goal.decreases-push_defs
decreases-push_defs l = length l.defs.now
