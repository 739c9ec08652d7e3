use Rattle.std.proofs.Common.{length}
use Rattle.images.proofs.match_terms.applied.+add_list.Given as goal

abbrev pub decreases-add_list : goal.decreases-add_list
decreases-add_list g l = length l.terms.now
