use Rattle.std.proofs.Common.{length}
use Rattle.step_rows.proofs.given.+gather.Given as goal

abbrev pub decreases-gather : goal.decreases-gather
decreases-gather l = length l.decls.now
