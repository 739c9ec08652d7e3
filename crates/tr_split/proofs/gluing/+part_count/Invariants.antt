use Rattle.tr_split.proofs.gluing.+part_count.Given as goal

abbrev pub decreases-part_count : goal.decreases-part_count
decreases-part_count l = l.formula.0
