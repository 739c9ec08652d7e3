use Rattle.tr_inline.proofs.full_bodies.sizes.+is_higher.Given as goal

abbrev pub decreases-is_higher : goal.decreases-is_higher
decreases-is_higher l = l.e.0
