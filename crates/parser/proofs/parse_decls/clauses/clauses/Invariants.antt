use Rattle.parser.proofs.parse_decls.Cited.{◌-◌, length, map, clause_of, lexemes, Claused}
use Rattle.parser.proofs.parse_decls.clauses.clauses.Given as goal

abbrev pub invariant-more : goal.invariant-more
invariant-more l = Claused (lexemes l.source) l.fn.i l.bar (map clause_of l.clauses.items) l.j

abbrev pub decreases-more : goal.decreases-more
decreases-more l = length l.source.tokens.now - l.j
