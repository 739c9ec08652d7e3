use Rattle.std.proofs.Common.{length}
use Rattle.clones.proofs.clone_elements.elements.+push_symbols.Given as goal

abbrev pub decreases-push_symbols : goal.decreases-push_symbols
decreases-push_symbols l = length l.sides.now
