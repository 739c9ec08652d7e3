use Rattle.std.proofs.Common.{length}
use Rattle.elab_declarations.proofs.propositions.+push_rigid.Given as goal

abbrev pub decreases-push_rigid : goal.decreases-push_rigid
decreases-push_rigid l = length l.vars.now
