use Rattle.parser.proofs.parse_terms.TextsRead as T
use Rattle.parser.proofs.parse_terms.operators.operator.Goals as goal

pub returns : goal.returns
returns c = T.operator_there c.in_ok-word.ensures
