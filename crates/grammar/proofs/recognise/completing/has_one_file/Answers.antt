use Rattle.grammar.specs.declared.symbols.Symbol.TheVariants as s
use Rattle.grammar.proofs.recognise.Common.{write_file, IsLevelFile, PlacedFile, whole_file}
use Rattle.grammar.proofs.recognise.Answering.{one}
use Rattle.grammar.proofs.recognise.completing.has_one_file.Goals as goal

pub returns : goal.returns
returns c = λ i xs f g p q h k. one s.File i IsLevelFile (PlacedFile i) write_file (whole_file i) xs f g p q h k
