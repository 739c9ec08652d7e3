use Rattle.std.proofs.Common.{length}
use Rattle.tr_if.proofs.refused.+before_refused.Given as goal

abbrev pub decreases-before_refused : goal.decreases-before_refused
decreases-before_refused l = length l.decls.now
