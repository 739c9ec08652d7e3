use Rattle.parser.proofs.parse_decls.Cited.{◌-◌, length, map, member_of, lexemes, Members}
use Rattle.parser.proofs.parse_decls.bodies.members.Given as goal

abbrev pub invariant-members : goal.invariant-members
invariant-members l = Members (lexemes l.source) l.fn.i (map member_of l.members.items) l.j

abbrev pub decreases-members : goal.decreases-members
decreases-members l = length l.source.tokens.now - l.j
