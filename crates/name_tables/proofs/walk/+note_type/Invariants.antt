use Rattle.name_tables.proofs.walk.+note_type.Given as goal

abbrev pub decreases-note_type : goal.decreases-note_type
decreases-note_type l = l.ty.0
