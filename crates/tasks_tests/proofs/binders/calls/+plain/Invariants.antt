use Rattle.tasks_tests.proofs.binders.calls.+plain.Given as goal

abbrev pub decreases-plain : goal.decreases-plain
decreases-plain l = l.e.0
