use Rattle.std.proofs.Common.{length}
use Rattle.clones.proofs.clone_elements.replacements.+put_types.Given as goal

abbrev pub decreases-put_types : goal.decreases-put_types
decreases-put_types l = length l.types.now
