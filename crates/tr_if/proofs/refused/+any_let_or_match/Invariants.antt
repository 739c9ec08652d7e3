use Rattle.std.proofs.Common.{length}
use Rattle.tr_if.proofs.refused.+any_let_or_match.Given as goal

abbrev pub decreases-any_let_or_match : goal.decreases-any_let_or_match
decreases-any_let_or_match l = length l.formulas.now
