use Rattle.parser.proofs.parse_terms.Cited.{◌-◌, length, lexemes, TypeScopes}
use Rattle.parser.proofs.parse_terms.names.lower_name.Given as goal

abbrev pub invariant-scopes : goal.invariant-scopes
invariant-scopes l = TypeScopes (lexemes l.source) l.fn.i l.scopes.items l.j

abbrev pub decreases-scopes : goal.decreases-scopes
decreases-scopes l = length l.source.tokens.now - l.j
