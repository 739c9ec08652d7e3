use Rattle.std.proofs.Common.{length}
use Rattle.checks.proofs.decl_checks.structure.+choices.Given as goal

abbrev pub decreases-choices : goal.decreases-choices
decreases-choices l = length l.defs.now
