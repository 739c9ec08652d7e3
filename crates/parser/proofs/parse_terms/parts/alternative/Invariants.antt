use Rattle.parser.proofs.parse_terms.Cited.{◌-◌, length, map, pattern_of, lexemes, Patterning}
use Rattle.parser.proofs.parse_terms.parts.alternative.Given as goal

abbrev pub invariant-more : goal.invariant-more
invariant-more l = Patterning (lexemes l.source) l.fn.i (map pattern_of l.parts.items) l.j

abbrev pub decreases-more : goal.decreases-more
decreases-more l = length l.source.tokens.now - l.j
