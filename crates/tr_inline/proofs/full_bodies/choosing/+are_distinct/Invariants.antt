use Rattle.tr_inline.proofs.full_bodies.choosing.+are_distinct.Given as goal

abbrev pub decreases-are_distinct : goal.decreases-are_distinct
decreases-are_distinct l = l.list.0
