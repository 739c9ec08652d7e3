use Rattle.parser.proofs.parse_terms.Cited.{◌-◌, ◌*◌, ◌+◌, length, map, form_of, lexemes, Types, TypeList}
use Rattle.parser.proofs.parse_terms.types.+type_descent.Given as goal

abbrev pub decreases-type_tree : goal.decreases-type_tree
decreases-type_tree l = 4 * (length l.source.tokens.now - l.i) + 1

abbrev pub decreases-argument : goal.decreases-argument
decreases-argument l = 4 * (length l.source.tokens.now - l.i) + 1

abbrev pub decreases-type_arguments : goal.decreases-type_arguments
decreases-type_arguments l = 4 * (length l.source.tokens.now - l.i) + 2

abbrev pub decreases-type_list : goal.decreases-type_list
decreases-type_list l = 4 * (length l.source.tokens.now - l.i) + 2

abbrev pub invariant-type_arguments-arguments : goal.invariant-type_arguments-arguments
invariant-type_arguments-arguments l = Types (lexemes l.source) l.fn.i (map form_of l.arguments.items) l.j

abbrev pub decreases-type_arguments-arguments : goal.decreases-type_arguments-arguments
decreases-type_arguments-arguments l = length l.source.tokens.now - l.j

abbrev pub invariant-type_list-more : goal.invariant-type_list-more
invariant-type_list-more l = TypeList (lexemes l.source) l.fn.i (map form_of l.parts.items) l.j

abbrev pub decreases-type_list-more : goal.decreases-type_list-more
decreases-type_list-more l = length l.source.tokens.now - l.j
