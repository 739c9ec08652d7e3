use Rattle.std.proofs.Common.{length}
use Rattle.checks.proofs.decl_checks.values.+some_has_values.Given as goal

abbrev pub decreases-some_has_values : goal.decreases-some_has_values
decreases-some_has_values l = length l.cons.now
