use Rattle.std.proofs.Common.{length}
use Rattle.checks.proofs.decl_checks.structure.+use_passes.Given as goal

abbrev pub decreases-use_passes : goal.decreases-use_passes
decreases-use_passes l = length l.chosen.now
