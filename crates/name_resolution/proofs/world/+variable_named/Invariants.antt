use Rattle.std.proofs.Common.{length}
use Rattle.name_resolution.proofs.world.+variable_named.Given as goal

abbrev pub decreases-variable_named : goal.decreases-variable_named
decreases-variable_named l = length l.vars.now
