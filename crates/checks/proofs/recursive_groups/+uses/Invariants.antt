use Rattle.checks.proofs.recursive_groups.+uses.Given as goal

abbrev pub decreases-uses : goal.decreases-uses
decreases-uses l = l.e.0
