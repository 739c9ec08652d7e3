use Rattle.std.proofs.Common.{length}
use Rattle.elab_groups.proofs.parts.entries.+push_projections.Given as goal

abbrev pub decreases-push_projections : goal.decreases-push_projections
decreases-push_projections l = length l.fields.now
