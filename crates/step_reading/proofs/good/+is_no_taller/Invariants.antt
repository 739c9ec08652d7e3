use Rattle.step_reading.proofs.good.+is_no_taller.Given as goal

abbrev pub decreases-is_no_taller : goal.decreases-is_no_taller
decreases-is_no_taller l = l.most
