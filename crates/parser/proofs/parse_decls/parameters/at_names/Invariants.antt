use Rattle.parser.proofs.parse_decls.Common.{◌≡◌, ◌+◌, ◌-◌, length, from, lexemes, names_before_colon}
use Rattle.parser.proofs.parse_decls.parameters.at_names.Given as goal

abbrev pub invariant-names : goal.invariant-names
invariant-names l = names_before_colon (from (lexemes l.source) (l.fn.i + 1)) ≡ names_before_colon (from (lexemes l.source) l.j)

abbrev pub decreases-names : goal.decreases-names
decreases-names l = length l.source.tokens.now - l.j
