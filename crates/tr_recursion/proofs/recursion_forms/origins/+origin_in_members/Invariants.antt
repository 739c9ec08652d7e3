use Rattle.std.proofs.Common.{length}
use Rattle.tr_recursion.proofs.recursion_forms.origins.+origin_in_members.Given as goal

abbrev pub decreases-origin_in_members : goal.decreases-origin_in_members
decreases-origin_in_members l = length l.defs.now
