use Rattle.std.proofs.Common.{length}
use Rattle.tr_inline.proofs.full_bodies.putting.+are_small.Given as goal

abbrev pub decreases-are_small : goal.decreases-are_small
decreases-are_small l = length l.ids.now
