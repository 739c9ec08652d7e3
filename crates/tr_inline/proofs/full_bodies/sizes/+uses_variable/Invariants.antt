use Rattle.tr_inline.proofs.full_bodies.sizes.+uses_variable.Given as goal

abbrev pub decreases-uses_variable : goal.decreases-uses_variable
decreases-uses_variable l = l.e.0
