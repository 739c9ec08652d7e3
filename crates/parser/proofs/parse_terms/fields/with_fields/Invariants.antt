use Rattle.parser.proofs.parse_terms.Cited.{◌-◌, length, tree_of, lexemes, FieldsFrom}
use Rattle.parser.proofs.parse_terms.fields.with_fields.Given as goal

abbrev pub invariant-fields : goal.invariant-fields
invariant-fields l = FieldsFrom (lexemes l.source) l.fn.i (tree_of l.fn.of) l.fn.j (tree_of l.whole) l.end

abbrev pub decreases-fields : goal.decreases-fields
decreases-fields l = length l.source.tokens.now - l.end
