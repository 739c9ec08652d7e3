use Rattle.std.proofs.Common.{length}
use Rattle.tr_inline.proofs.full_bodies.uses.+find_body.Given as goal

abbrev pub decreases-find_body : goal.decreases-find_body
decreases-find_body l = length l.bodies.now
