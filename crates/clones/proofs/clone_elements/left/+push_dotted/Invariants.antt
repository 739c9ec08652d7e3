use Rattle.std.proofs.Common.{length}
use Rattle.clones.proofs.clone_elements.left.+push_dotted.Given as goal

abbrev pub decreases-push_dotted : goal.decreases-push_dotted
decreases-push_dotted l = length l.scopes.now
