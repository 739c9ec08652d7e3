use Rattle.std.proofs.Common.{◌+◌, ◌*◌}
use Rattle.checks.proofs.decl_checks.structure.+passes.Given as goal

abbrev pub decreases-passes : goal.decreases-passes
decreases-passes l = 2 * l.e.0 + 1

abbrev pub decreases-parts_pass : goal.decreases-parts_pass
decreases-parts_pass l = 2 * l.e.0
