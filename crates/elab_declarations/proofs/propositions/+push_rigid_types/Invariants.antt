use Rattle.std.proofs.Common.{length}
use Rattle.elab_declarations.proofs.propositions.+push_rigid_types.Given as goal

abbrev pub decreases-push_rigid_types : goal.decreases-push_rigid_types
decreases-push_rigid_types l = length l.numbers.now
