use Rattle.name_tables.proofs.walk.+note_types_of.Given as goal

abbrev pub decreases-note_types_of : goal.decreases-note_types_of
decreases-note_types_of l = l.args.0
