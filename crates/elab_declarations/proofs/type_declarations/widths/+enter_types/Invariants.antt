use Rattle.std.proofs.Common.{length}
use Rattle.elab_declarations.proofs.type_declarations.widths.+enter_types.Given as goal

abbrev pub decreases-enter_types : goal.decreases-enter_types
decreases-enter_types l = length l.types.now
