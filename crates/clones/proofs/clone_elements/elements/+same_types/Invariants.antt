use Rattle.std.proofs.Common.{length}
use Rattle.clones.proofs.clone_elements.elements.+same_types.Given as goal

abbrev pub decreases-same_types : goal.decreases-same_types
decreases-same_types l = length l.types.now
