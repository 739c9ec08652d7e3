use Rattle.parser.proofs.parse_decls.Cited.{◌-◌, length, map, algebraic_of, lexemes, Algebraics}
use Rattle.parser.proofs.parse_decls.types.type_declaration.Given as goal

abbrev pub invariant-others : goal.invariant-others
invariant-others l = Algebraics (lexemes l.source) l.fn.i (map algebraic_of l.types.items) l.n

abbrev pub decreases-others : goal.decreases-others
decreases-others l = length l.source.tokens.now - l.n
