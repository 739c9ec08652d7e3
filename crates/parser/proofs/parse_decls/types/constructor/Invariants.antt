use Rattle.parser.proofs.parse_decls.Cited.{◌-◌, ◌+◌, length, map, param_of, lexemes, Fields}
use Rattle.parser.proofs.parse_decls.types.constructor.Given as goal

abbrev pub invariant-fields : goal.invariant-fields
invariant-fields l = Fields (lexemes l.source) (l.fn.i + 1) (map param_of l.parts.items) l.j

abbrev pub decreases-fields : goal.decreases-fields
decreases-fields l = length l.source.tokens.now - l.j
