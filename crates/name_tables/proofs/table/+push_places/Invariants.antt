use Rattle.name_tables.proofs.table.+push_places.Given as goal

abbrev pub decreases-push_places : goal.decreases-push_places
decreases-push_places l = l.types.0
