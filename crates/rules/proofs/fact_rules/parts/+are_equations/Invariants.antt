use Rattle.std.proofs.Common.{length}
use Rattle.rules.proofs.fact_rules.parts.+are_equations.Given as goal

abbrev pub decreases-are_equations : goal.decreases-are_equations
decreases-are_equations l = length l.args.now
