use Rattle.parser.proofs.parse_terms.Cited.{◌-◌, length, lexemes, Named}
use Rattle.parser.proofs.parse_terms.parts.bound_names.Given as goal

abbrev pub invariant-more : goal.invariant-more
invariant-more l = Named (lexemes l.source) l.fn.i l.names.items l.j

abbrev pub decreases-more : goal.decreases-more
decreases-more l = length l.source.tokens.now - l.j
