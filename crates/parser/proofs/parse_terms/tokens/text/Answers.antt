use Rattle.std.proofs.Common.{◌∙◌}
use Rattle.parser.proofs.parse_terms.TextsRead.{text_there}
use Rattle.parser.proofs.parse_terms.tokens.text.Goals as goal

pub bytes-requires : goal.bytes-requires
bytes-requires c = c.args.source.texts c.args.i c.token-found.result c.token-found.ensures

pub returns : goal.returns
returns c = text_there c.args.source c.args.i c.token-found.result c.in_ok-text.text c.requires c.token-found.ensures (c.in_ok-text.ensures ∙ c.bytes.ensures)
