use Rattle.rules.proofs.term_rules.pattern_tests.+after_tests.Given as goal

abbrev pub decreases-after_tests : goal.decreases-after_tests
decreases-after_tests l = l.pattern.0
