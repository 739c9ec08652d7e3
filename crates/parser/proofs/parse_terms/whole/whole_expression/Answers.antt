use Rattle.std.proofs.Common.{[], Some, ap, ◌∙◌}
use Rattle.parser.proofs.parse_terms.whole.whole_expression.Goals as goal

pub expression-requires : goal.expression-requires
expression-requires c = record { within = c.requires.within; following = []; values = c.requires.value; reads = c.requires.reads }

pub returns : goal.returns
returns c = c.requires.reads ∙ ap (λ e. Some (e, tt)) (c.in_ok-read.ensures.read.reads [] c.requires.value c.requires.reads).0
