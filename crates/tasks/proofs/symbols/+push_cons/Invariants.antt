use Rattle.std.proofs.Common.{length}
use Rattle.tasks.proofs.symbols.+push_cons.Given as goal

abbrev pub decreases-push_cons : goal.decreases-push_cons
decreases-push_cons l = length l.cons.now
