use Rattle.std.proofs.Common.{length}
use Rattle.declarations.proofs.citing.+origin_of.Given as goal

abbrev pub decreases-origin_of : goal.decreases-origin_of
decreases-origin_of g l = length l.decls.now
