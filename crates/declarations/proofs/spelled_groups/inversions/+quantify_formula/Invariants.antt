use Rattle.std.proofs.Common.{length}
use Rattle.declarations.proofs.spelled_groups.inversions.+quantify_formula.Given as goal

abbrev pub decreases-quantify_formula : goal.decreases-quantify_formula
decreases-quantify_formula l = length l.args.now
