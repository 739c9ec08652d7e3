use Rattle.std.proofs.Common.{◌≡◌, ◌+◌, ◌*◌, ◌++◌, map, drop, max}
use Rattle.tasks.specs.Meaning.{trees_at}
use Rattle.printed_problems.specs.Templates.{by_pieces}
use Rattle.printed_problems.specs.printed_terms.Texts.{each_after, term_text}
use Rattle.printed_problems.specs.printed_terms.Meaning.{printing}
use Rattle.printed_problems.proofs.printed_terms.terms.+terms.Given as goal

abbrev pub decreases-push_term : goal.decreases-push_term
decreases-push_term l = 8 * l.e.0 + 7

abbrev pub decreases-push_each : goal.decreases-push_each
decreases-push_each l = 8 * l.below.0 + 1

abbrev pub decreases-push_joined : goal.decreases-push_joined
decreases-push_joined l = 8 * l.below.0 + 2

abbrev pub decreases-push_enclosed : goal.decreases-push_enclosed
decreases-push_enclosed l = 8 * l.below.0 + 4

abbrev pub decreases-push_pieces : goal.decreases-push_pieces
decreases-push_pieces l = 8 * l.below.0 + 3

abbrev pub decreases-push_equality : goal.decreases-push_equality
decreases-push_equality l = 8 * l.below.0 + 5

abbrev pub decreases-push_applied : goal.decreases-push_applied
decreases-push_applied l = 8 * l.below.0 + 5

abbrev pub decreases-push_symbol : goal.decreases-push_symbol
decreases-push_symbol l = 8 * l.list.0 + 7

abbrev pub decreases-push_symbol_by : goal.decreases-push_symbol_by
decreases-push_symbol_by l = 8 * l.below.0 + 6

abbrev pub decreases-push_quantified : goal.decreases-push_quantified
decreases-push_quantified l = 8 * l.body.0 + 8

abbrev pub decreases-push_let : goal.decreases-push_let
decreases-push_let l = 8 * max l.value.0 l.body.0 + 8

abbrev pub invariant-push_each-loop-arg : goal.invariant-push_each-loop-arg
invariant-push_each-loop-arg l =
    l.out.items ++ each_after l.separator (map (term_text (printing l.c) l.depth) (trees_at l.c.store.now (drop l.arg-index l.args))) ≡ l.fn.out.items ++ each_after l.separator (map (term_text (printing l.c) l.depth) (trees_at l.c.store.now l.args))

abbrev pub invariant-push_pieces-loop-piece : goal.invariant-push_pieces-loop-piece
invariant-push_pieces-loop-piece l =
    l.out.items ++ by_pieces (drop l.piece-index l.pieces) (map (term_text (printing l.c) l.depth) (trees_at l.c.store.now l.args)) ≡ l.fn.out.items ++ by_pieces l.pieces (map (term_text (printing l.c) l.depth) (trees_at l.c.store.now l.args))
