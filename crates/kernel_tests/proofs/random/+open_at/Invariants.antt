use Rattle.kernel_tests.proofs.random.+open_at.Given as goal

abbrev pub decreases-open_at : goal.decreases-open_at
decreases-open_at l = l.levels
