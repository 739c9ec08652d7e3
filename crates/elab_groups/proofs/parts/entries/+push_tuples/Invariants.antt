use Rattle.std.proofs.Common.{length}
use Rattle.elab_groups.proofs.parts.entries.+push_tuples.Given as goal

abbrev pub decreases-push_tuples : goal.decreases-push_tuples
decreases-push_tuples l = length l.widths.now
