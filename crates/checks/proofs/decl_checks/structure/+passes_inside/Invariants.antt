use Rattle.checks.proofs.decl_checks.structure.+passes_inside.Given as goal

abbrev pub decreases-passes_inside : goal.decreases-passes_inside
decreases-passes_inside l = l.args.0
