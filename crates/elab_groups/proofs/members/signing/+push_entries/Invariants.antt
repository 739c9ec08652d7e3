use Rattle.std.proofs.Common.{length}
use Rattle.elab_groups.proofs.members.signing.+push_entries.Given as goal

abbrev pub decreases-push_entries : goal.decreases-push_entries
decreases-push_entries l = length l.members.now
