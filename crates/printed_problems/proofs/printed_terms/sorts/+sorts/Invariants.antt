use Rattle.std.proofs.Common.{◌≡◌, ◌+◌, ◌*◌, ◌++◌, map, drop}
use Rattle.tasks.specs.Meaning.{trees_at}
use Rattle.printed_problems.specs.Templates.{by_pieces}
use Rattle.printed_problems.specs.printed_terms.Texts.{sort_text}
use Rattle.printed_problems.specs.printed_terms.Meaning.{printing}
use Rattle.printed_problems.proofs.printed_terms.sorts.+sorts.Given as goal

abbrev pub decreases-push_sort : goal.decreases-push_sort
decreases-push_sort l = 4 * l.ty.0 + 3

abbrev pub decreases-push_sort_by : goal.decreases-push_sort_by
decreases-push_sort_by l = 4 * l.below.0 + 2

abbrev pub decreases-push_sort_pieces : goal.decreases-push_sort_pieces
decreases-push_sort_pieces l = 4 * l.below.0 + 1

abbrev pub invariant-push_sort_pieces-loop-piece : goal.invariant-push_sort_pieces-loop-piece
invariant-push_sort_pieces-loop-piece l =
    l.out.items ++ by_pieces (drop l.piece-index l.pieces) (map (sort_text (printing l.c)) (trees_at l.c.store.now l.args)) ≡ l.fn.out.items ++ by_pieces l.pieces (map (sort_text (printing l.c)) (trees_at l.c.store.now l.args))
