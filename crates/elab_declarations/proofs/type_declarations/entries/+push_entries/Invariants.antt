use Rattle.std.proofs.Common.{length}
use Rattle.elab_declarations.proofs.type_declarations.entries.+push_entries.Given as goal

abbrev pub decreases-push_entries : goal.decreases-push_entries
decreases-push_entries l = length l.sources.now
