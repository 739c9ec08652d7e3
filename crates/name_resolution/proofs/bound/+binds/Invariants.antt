use Rattle.std.proofs.Common.{length}
use Rattle.name_resolution.proofs.bound.+binds.Given as goal

abbrev pub decreases-binds : goal.decreases-binds
decreases-binds l = length l.binders.now
