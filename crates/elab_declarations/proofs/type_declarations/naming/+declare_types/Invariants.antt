use Rattle.std.proofs.Common.{length}
use Rattle.elab_declarations.proofs.type_declarations.naming.+declare_types.Given as goal

abbrev pub decreases-declare_types : goal.decreases-declare_types
decreases-declare_types l = length l.types.now
