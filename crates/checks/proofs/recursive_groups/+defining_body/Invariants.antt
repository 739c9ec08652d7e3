use Rattle.checks.proofs.recursive_groups.+defining_body.Given as goal

abbrev pub decreases-defining_body : goal.decreases-defining_body
decreases-defining_body l = l.equation.0
