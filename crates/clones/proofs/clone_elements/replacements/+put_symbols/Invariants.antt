use Rattle.std.proofs.Common.{length}
use Rattle.clones.proofs.clone_elements.replacements.+put_symbols.Given as goal

abbrev pub decreases-put_symbols : goal.decreases-put_symbols
decreases-put_symbols l = length l.symbols.now
