use Rattle.std.proofs.Common.{length}
use Rattle.open_types.proofs.records.+list_of_terms.Given as goal

abbrev pub decreases-list_of_terms : goal.decreases-list_of_terms
decreases-list_of_terms l = length l.ids.now
