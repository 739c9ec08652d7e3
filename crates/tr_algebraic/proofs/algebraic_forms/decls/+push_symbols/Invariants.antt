use Rattle.std.proofs.Common.{length}
use Rattle.tr_algebraic.proofs.algebraic_forms.decls.+push_symbols.Given as goal

abbrev pub decreases-push_symbols : goal.decreases-push_symbols
decreases-push_symbols l = length l.symbols.now
