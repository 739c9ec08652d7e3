use Rattle.std.proofs.Common.{length}
use Rattle.elab_groups.proofs.equations.+quantify_formula.Given as goal

abbrev pub decreases-quantify_formula : goal.decreases-quantify_formula
decreases-quantify_formula l = length l.args.now
