use Rattle.checks.proofs.match_cover.constructors.+are_variables.Given as goal

abbrev pub decreases-are_variables : goal.decreases-are_variables
decreases-are_variables l = l.list.0
