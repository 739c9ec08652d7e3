use Rattle.type_rows.proofs.printing.+put_type.Given as goal

abbrev pub decreases-put_type : goal.decreases-put_type
decreases-put_type l = l.id.0
