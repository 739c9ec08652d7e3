use Rattle.std.proofs.Common.{length}
use Rattle.elab_groups.proofs.bodies.+push_locals.Given as goal

abbrev pub decreases-push_locals : goal.decreases-push_locals
decreases-push_locals l = length l.names.now
