use Rattle.std.proofs.Common.{length}
use Rattle.clones.proofs.clone_elements.replacements.+push_types.Given as goal

abbrev pub decreases-push_types : goal.decreases-push_types
decreases-push_types l = length l.sides.now
