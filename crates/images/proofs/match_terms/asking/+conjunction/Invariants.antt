use Rattle.std.proofs.Common.{length}
use Rattle.images.proofs.match_terms.asking.+conjunction.Given as goal

abbrev pub decreases-conjunction : goal.decreases-conjunction
decreases-conjunction g l = length l.formulas.now
