use Rattle.parser.proofs.parse_terms.Cited.{◌-◌, ◌*◌, ◌+◌, length, map, pattern_of, form_part_of, FormsFrom, lexemes, Patterns, PatternList}
use Rattle.parser.proofs.parse_terms.patterns.+pattern_descent.Given as goal

abbrev pub decreases-pattern : goal.decreases-pattern
decreases-pattern l = 5 * (length l.source.tokens.now - l.i) + 3

abbrev pub decreases-bare_pattern : goal.decreases-bare_pattern
decreases-bare_pattern l = 5 * (length l.source.tokens.now - l.i) + 2

abbrev pub decreases-pattern_atom : goal.decreases-pattern_atom
decreases-pattern_atom l = 5 * (length l.source.tokens.now - l.i) + 1

abbrev pub decreases-pattern_parts : goal.decreases-pattern_parts
decreases-pattern_parts l = 5 * (length l.source.tokens.now - l.i) + 2

abbrev pub decreases-pattern_list : goal.decreases-pattern_list
decreases-pattern_list l = 5 * (length l.source.tokens.now - l.i) + 4

abbrev pub decreases-pattern_record : goal.decreases-pattern_record
decreases-pattern_record l = 5 * (length l.source.tokens.now - l.i)

abbrev pub decreases-pattern_field : goal.decreases-pattern_field
decreases-pattern_field l = 5 * (length l.source.tokens.now - l.i) + 4

abbrev pub invariant-pattern_record-more : goal.invariant-pattern_record-more
invariant-pattern_record-more l = FormsFrom (lexemes l.source) l.fn.i (map form_part_of l.fields.items) l.j

abbrev pub decreases-pattern_record-more : goal.decreases-pattern_record-more
decreases-pattern_record-more l = length l.source.tokens.now - l.j

abbrev pub invariant-pattern_parts-parts : goal.invariant-pattern_parts-parts
invariant-pattern_parts-parts l = Patterns (lexemes l.source) l.fn.i (map pattern_of l.parts.items) l.j

abbrev pub decreases-pattern_parts-parts : goal.decreases-pattern_parts-parts
decreases-pattern_parts-parts l = length l.source.tokens.now - l.j

abbrev pub invariant-pattern_list-more : goal.invariant-pattern_list-more
invariant-pattern_list-more l = PatternList (lexemes l.source) l.fn.i (map pattern_of l.parts.items) l.j

abbrev pub decreases-pattern_list-more : goal.decreases-pattern_list-more
decreases-pattern_list-more l = length l.source.tokens.now - l.j
