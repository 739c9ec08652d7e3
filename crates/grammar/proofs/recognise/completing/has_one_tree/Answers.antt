use Rattle.grammar.specs.declared.symbols.Symbol.TheVariants as s
use Rattle.grammar.proofs.recognise.Common.{IsLevel, IsPlacedTree, write, whole_expr}
use Rattle.grammar.proofs.recognise.Answering.{one}
use Rattle.grammar.proofs.recognise.completing.has_one_tree.Goals as goal

pub returns : goal.returns
returns c = λ i xs t u p q g h. one (s.Expr 0) i IsLevel (IsPlacedTree i) write (whole_expr i) xs t u p q g h
