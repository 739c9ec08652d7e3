use Rattle.std.proofs.Common.{length}
use Rattle.trees.proofs.binders.index_bounds.putting.+are_within.Given as goal

abbrev pub decreases-are_within : goal.decreases-are_within
decreases-are_within l = length l.terms.now
