use Rattle.std.proofs.Common.{length}
use Rattle.tr_discriminate.proofs.citing.+origin_from.Given as goal

abbrev pub decreases-origin_from : goal.decreases-origin_from
decreases-origin_from l = length l.decls.now
