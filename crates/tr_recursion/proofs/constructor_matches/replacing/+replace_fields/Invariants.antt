use Rattle.std.proofs.Common.{length}
use Rattle.tr_recursion.proofs.constructor_matches.replacing.+replace_fields.Given as goal

abbrev pub decreases-replace_fields : goal.decreases-replace_fields
decreases-replace_fields l = length l.terms.now
