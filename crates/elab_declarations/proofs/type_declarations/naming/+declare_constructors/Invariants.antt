use Rattle.std.proofs.Common.{length}
use Rattle.elab_declarations.proofs.type_declarations.naming.+declare_constructors.Given as goal

abbrev pub decreases-declare_constructors : goal.decreases-declare_constructors
decreases-declare_constructors l = length l.cons.now
