use Rattle.std.proofs.Common.{length}
use Rattle.tr_inline.proofs.full_bodies.choosing.+is_among.Given as goal

abbrev pub decreases-is_among : goal.decreases-is_among
decreases-is_among l = length l.seen.now
