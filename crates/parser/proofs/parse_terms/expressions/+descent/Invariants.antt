use Rattle.parser.proofs.parse_terms.Cited.{◌≡◌, ◌-◌, ◌*◌, ◌+◌, length, map, ends_open, arm_of, binder_of, pattern_of, patterns, tree_of, tree_part_of, TreesFrom, Climb, lexemes, Arguments, Members, Bound, Quantified, Triggering, Alternatives, Branched, Matched}
use Rattle.parser.proofs.parse_terms.expressions.+descent.Given as goal

abbrev pub decreases-expression : goal.decreases-expression
decreases-expression l = 8 * (length l.source.tokens.now - l.i) + 5

abbrev pub decreases-any_expression : goal.decreases-any_expression
decreases-any_expression l = 8 * (length l.source.tokens.now - l.i) + 6

abbrev pub decreases-boxed_expression : goal.decreases-boxed_expression
decreases-boxed_expression l = 8 * (length l.source.tokens.now - l.i) + 7

abbrev pub decreases-operand : goal.decreases-operand
decreases-operand l = 8 * (length l.source.tokens.now - l.i) + 4

abbrev pub decreases-operation : goal.decreases-operation
decreases-operation l = 8 * (length l.source.tokens.now - l.left.end) + 7

abbrev pub decreases-negation : goal.decreases-negation
decreases-negation l = 8 * (length l.source.tokens.now - l.i) + 3

abbrev pub decreases-prefix : goal.decreases-prefix
decreases-prefix l = 8 * (length l.source.tokens.now - l.i) + 3

abbrev pub decreases-choice : goal.decreases-choice
decreases-choice l = 8 * (length l.source.tokens.now - l.i) + 3

abbrev pub decreases-let_in : goal.decreases-let_in
decreases-let_in l = 8 * (length l.source.tokens.now - l.i) + 3

abbrev pub decreases-quantification : goal.decreases-quantification
decreases-quantification l = 8 * (length l.source.tokens.now - l.i) + 3

abbrev pub decreases-trigger : goal.decreases-trigger
decreases-trigger l = 8 * (length l.source.tokens.now - l.i) + 6

abbrev pub decreases-primary : goal.decreases-primary
decreases-primary l = 8 * (length l.source.tokens.now - l.i) + 3

abbrev pub decreases-atom : goal.decreases-atom
decreases-atom l = 8 * (length l.source.tokens.now - l.i) + 3

abbrev pub decreases-arguments : goal.decreases-arguments
decreases-arguments l = 8 * (length l.source.tokens.now - l.i) + 4

abbrev pub decreases-plain_atom : goal.decreases-plain_atom
decreases-plain_atom l = 8 * (length l.source.tokens.now - l.i) + 2

abbrev pub decreases-enclosed : goal.decreases-enclosed
decreases-enclosed l = 8 * (length l.source.tokens.now - l.i) + 1

abbrev pub decreases-cases : goal.decreases-cases
decreases-cases l = 8 * (length l.source.tokens.now - l.i) + 1

abbrev pub decreases-term_record : goal.decreases-term_record
decreases-term_record l = 8 * (length l.source.tokens.now - l.i) + 1

abbrev pub decreases-field_value : goal.decreases-field_value
decreases-field_value l = 8 * (length l.source.tokens.now - l.i) + 7

abbrev pub invariant-term_record-more : goal.invariant-term_record-more
invariant-term_record-more l = TreesFrom (lexemes l.source) l.fn.i (map tree_part_of l.fields.items) l.j

abbrev pub decreases-term_record-more : goal.decreases-term_record-more
decreases-term_record-more l = length l.source.tokens.now - l.j

abbrev pub decreases-branch : goal.decreases-branch
decreases-branch l = 8 * (length l.source.tokens.now - l.i) + 6

abbrev pub invariant-expression-operators : goal.invariant-expression-operators
invariant-expression-operators l = Climb (lexemes l.source) l.fn.m l.fn.i (tree_of l.left.tree) l.left.tight l.left.end × (l.left.is_open ≡ ends_open (tree_of l.left.tree))

abbrev pub decreases-expression-operators : goal.decreases-expression-operators
decreases-expression-operators l = length l.source.tokens.now - l.left.end

abbrev pub invariant-let_in-more : goal.invariant-let_in-more
invariant-let_in-more l = Bound (lexemes l.source) l.fn.m l.fn.i (map pattern_of l.bound.items) l.j

abbrev pub decreases-let_in-more : goal.decreases-let_in-more
decreases-let_in-more l = length l.source.tokens.now - l.j

abbrev pub invariant-quantification-more : goal.invariant-quantification-more
invariant-quantification-more l = Quantified (lexemes l.source) l.fn.m l.fn.i l.forall (map binder_of l.binders.items) l.j

abbrev pub decreases-quantification-more : goal.decreases-quantification-more
decreases-quantification-more l = length l.source.tokens.now - l.j

abbrev pub invariant-trigger-terms : goal.invariant-trigger-terms
invariant-trigger-terms l = Triggering (lexemes l.source) l.fn.i (map tree_of l.terms.items) l.bars.items l.j

abbrev pub decreases-trigger-terms : goal.decreases-trigger-terms
decreases-trigger-terms l = length l.source.tokens.now - l.j

abbrev pub invariant-arguments-arguments : goal.invariant-arguments-arguments
invariant-arguments-arguments l = Arguments (lexemes l.source) l.fn.i (map tree_of l.parts.items) l.j

abbrev pub decreases-arguments-arguments : goal.decreases-arguments-arguments
decreases-arguments-arguments l = length l.source.tokens.now - l.j

abbrev pub invariant-enclosed-members : goal.invariant-enclosed-members
invariant-enclosed-members l = Members (lexemes l.source) l.fn.i (map tree_of l.parts.items) l.j

abbrev pub decreases-enclosed-members : goal.decreases-enclosed-members
decreases-enclosed-members l = length l.source.tokens.now - l.j

abbrev pub invariant-cases-scrutinees : goal.invariant-cases-scrutinees
invariant-cases-scrutinees l = Matched (lexemes l.source) l.fn.i (map tree_of l.scrutinees.items) l.j

abbrev pub decreases-cases-scrutinees : goal.decreases-cases-scrutinees
decreases-cases-scrutinees l = length l.source.tokens.now - l.j

abbrev pub invariant-cases-arms : goal.invariant-cases-arms
invariant-cases-arms l = Branched (lexemes l.source) l.fn.i (map tree_of l.scrutinees.items) l.bar (map arm_of l.arms.items) l.n

abbrev pub decreases-cases-arms : goal.decreases-cases-arms
decreases-cases-arms l = length l.source.tokens.now - l.n

abbrev pub invariant-branch-alternatives : goal.invariant-branch-alternatives
invariant-branch-alternatives l = Alternatives (lexemes l.source) l.fn.i (map patterns l.alternatives.items) l.j

abbrev pub decreases-branch-alternatives : goal.decreases-branch-alternatives
decreases-branch-alternatives l = length l.source.tokens.now - l.j
