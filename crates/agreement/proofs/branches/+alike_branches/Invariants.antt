use Rattle.std.proofs.Common.{length}
use Rattle.agreement.proofs.branches.+alike_branches.Given as goal

abbrev pub decreases-alike_branches : goal.decreases-alike_branches
decreases-alike_branches l = length l.links.now
