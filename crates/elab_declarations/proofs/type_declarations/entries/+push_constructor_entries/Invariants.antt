use Rattle.std.proofs.Common.{length}
use Rattle.elab_declarations.proofs.type_declarations.entries.+push_constructor_entries.Given as goal

abbrev pub decreases-push_constructor_entries : goal.decreases-push_constructor_entries
decreases-push_constructor_entries l = length l.sources.now
