use Rattle.std.proofs.Common.{length}
use Rattle.elab_declarations.proofs.type_declarations.widths.+enter_constructors.Given as goal

abbrev pub decreases-enter_constructors : goal.decreases-enter_constructors
decreases-enter_constructors l = length l.cons.now
