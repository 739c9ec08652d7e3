use Rattle.step_reading.proofs.quick_steps.asking.+ask_all.Given as goal

abbrev pub decreases-ask_all : goal.decreases-ask_all
decreases-ask_all l = l.pattern.0
