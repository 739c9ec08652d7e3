use Rattle.parser.proofs.parse_decls.Common.{◌-◌, length, lexemes, AreTypeVariablesAt}
use Rattle.parser.proofs.parse_decls.types.variables.Given as goal

abbrev pub invariant-names : goal.invariant-names
invariant-names l = AreTypeVariablesAt (lexemes l.source) l.fn.i l.names.items l.j

abbrev pub decreases-names : goal.decreases-names
decreases-names l = length l.source.tokens.now - l.j
