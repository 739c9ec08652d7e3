use Rattle.parser.proofs.parse_decls.Cited.{◌-◌, length, map, param_of, lexemes, RecordFields}
use Rattle.parser.proofs.parse_decls.types.record_fields.Given as goal

abbrev pub invariant-more : goal.invariant-more
invariant-more l = RecordFields (lexemes l.source) l.fn.i (map param_of l.parts.items) l.j

abbrev pub decreases-more : goal.decreases-more
decreases-more l = length l.source.tokens.now - l.j
