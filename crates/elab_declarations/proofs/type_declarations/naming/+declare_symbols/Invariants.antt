use Rattle.std.proofs.Common.{length}
use Rattle.elab_declarations.proofs.type_declarations.naming.+declare_symbols.Given as goal

abbrev pub decreases-declare_symbols : goal.decreases-declare_symbols
decreases-declare_symbols l = length l.names.now
