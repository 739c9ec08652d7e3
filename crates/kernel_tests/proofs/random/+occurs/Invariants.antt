use Rattle.kernel_tests.proofs.random.+occurs.Given as goal

abbrev pub decreases-occurs : goal.decreases-occurs
decreases-occurs l = l.levels
