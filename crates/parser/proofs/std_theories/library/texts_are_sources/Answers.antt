use Rattle.parser.proofs.std_theories.Sources.{all_sources}
use Rattle.parser.proofs.std_theories.library.texts_are_sources.Goals as goal

pub returns : goal.returns
returns c = all_sources
