use Rattle.parser.proofs.parse_decls.Cited.{◌-◌, length, map, element_of, lexemes, Elements}
use Rattle.parser.proofs.parse_decls.clones.substitution.Given as goal

abbrev pub invariant-more : goal.invariant-more
invariant-more l = Elements (lexemes l.source) l.fn.i (map element_of l.elements.items) l.j

abbrev pub decreases-more : goal.decreases-more
decreases-more l = length l.source.tokens.now - l.j
