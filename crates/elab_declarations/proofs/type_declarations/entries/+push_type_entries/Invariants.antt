use Rattle.std.proofs.Common.{length}
use Rattle.elab_declarations.proofs.type_declarations.entries.+push_type_entries.Given as goal

abbrev pub decreases-push_type_entries : goal.decreases-push_type_entries
decreases-push_type_entries l = length l.types.now
