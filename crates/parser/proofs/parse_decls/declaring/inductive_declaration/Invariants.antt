use Rattle.parser.proofs.parse_decls.Cited.{◌-◌, length, map, inductive_of, lexemes, Inductives}
use Rattle.parser.proofs.parse_decls.declaring.inductive_declaration.Given as goal

abbrev pub invariant-more : goal.invariant-more
invariant-more l = Inductives (lexemes l.source) l.fn.i (map inductive_of l.of.items) l.j

abbrev pub decreases-more : goal.decreases-more
decreases-more l = length l.source.tokens.now - l.j
