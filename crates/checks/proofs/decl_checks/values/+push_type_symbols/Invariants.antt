use Rattle.std.proofs.Common.{length}
use Rattle.checks.proofs.decl_checks.values.+push_type_symbols.Given as goal

abbrev pub decreases-push_type_symbols : goal.decreases-push_type_symbols
decreases-push_type_symbols l = length l.types.now
