use Rattle.checks.proofs.match_cover.patterns.+bare_pattern.Given as goal

abbrev pub decreases-bare_pattern : goal.decreases-bare_pattern
decreases-bare_pattern l = l.pattern.0
