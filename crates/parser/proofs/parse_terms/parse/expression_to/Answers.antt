use Rattle.parser.proofs.parse_terms.CutRead.{front_texts, is_cut, longest_cut}
use Rattle.parser.proofs.parse_terms.parse.expression_to.Goals as goal

pub invariant_of-source : goal.invariant_of-source
invariant_of-source c = record { texts = front_texts c.args.text.now c.args.tokens.now c.args.to c.requires.tokens }

pub whole_expression-requires : goal.whole_expression-requires
whole_expression-requires c = is_cut c.args.text.now c.args.tokens.now c.args.from c.args.to c.requires.ends

pub returns : goal.returns
returns c = longest_cut c.args.text.now c.args.tokens.now c.args.from c.args.to c.requires.ends _ c.in_ok-tree.ensures
