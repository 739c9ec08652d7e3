use Rattle.parser.proofs.parse_decls.Cited.{◌-◌, length, map, param_of, lexemes, Params}
use Rattle.parser.proofs.parse_decls.parameters.params.Given as goal

abbrev pub invariant-params : goal.invariant-params
invariant-params l = Params (lexemes l.source) l.fn.i (map param_of l.params.items) l.j

abbrev pub decreases-params : goal.decreases-params
decreases-params l = length l.source.tokens.now - l.j
