use Rattle.std.proofs.Common.{length}
use Rattle.rules.proofs.fact_rules.inversion.+is_quantified.Given as goal

abbrev pub decreases-is_quantified : goal.decreases-is_quantified
decreases-is_quantified l = length l.args.now
