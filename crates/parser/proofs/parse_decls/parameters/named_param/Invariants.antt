use Rattle.parser.proofs.parse_decls.Cited.{◌-◌, length, lexemes, Naming}
use Rattle.parser.proofs.parse_decls.parameters.named_param.Given as goal

abbrev pub invariant-names : goal.invariant-names
invariant-names l = Naming (lexemes l.source) l.fn.i l.names.items l.j

abbrev pub decreases-names : goal.decreases-names
decreases-names l = length l.source.tokens.now - l.j
