use Rattle.std.proofs.Common.{length}
use Rattle.elab_declarations.proofs.type_declarations.naming.+declare_fields.Given as goal

abbrev pub decreases-declare_fields : goal.decreases-declare_fields
decreases-declare_fields l = length l.fields.now
