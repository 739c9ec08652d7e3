use Rattle.std.proofs.Common.{rules}
use Rattle.parser.proofs.parse_terms.Cited.{ap, ◌∙◌, literal, at, integer_word}
use Rattle.surface.proofs.TreeLemmas.{tree_of_node-Int}
use Rattle.parser.proofs.parse_terms.operators.integer_tree.Goals as goal

pub returns : goal.returns
returns c = let r = tree_of_node-Int c.integer-value.result c.place-here.result in let p = ap (λ a. literal a (integer_word c.integer-value.result)) c.place-here.ensures ∙ ap (literal (at c.args.i)) c.integer-value.ensures in search rules
