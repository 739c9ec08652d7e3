use Rattle.printed_problems.proofs.printed_terms.ranks.+push_places.Given as goal

abbrev pub decreases-push_places : goal.decreases-push_places
decreases-push_places l = l.ty.0
