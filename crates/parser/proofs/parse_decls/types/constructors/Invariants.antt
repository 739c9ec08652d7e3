use Rattle.parser.proofs.parse_decls.Cited.{◌-◌, length, map, constructor_of, lexemes, Constructors}
use Rattle.parser.proofs.parse_decls.types.constructors.Given as goal

abbrev pub invariant-more : goal.invariant-more
invariant-more l = Constructors (lexemes l.source) l.fn.i (map constructor_of l.cons.items) l.j

abbrev pub decreases-more : goal.decreases-more
decreases-more l = length l.source.tokens.now - l.j
