use Rattle.std.proofs.Common.{length}
use Rattle.rules.proofs.fact_rules.parts.+is_given_by_any.Given as goal

abbrev pub decreases-is_given_by_any : goal.decreases-is_given_by_any
decreases-is_given_by_any l = length l.clauses.now
