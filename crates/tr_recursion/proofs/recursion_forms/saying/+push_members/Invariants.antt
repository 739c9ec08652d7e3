use Rattle.std.proofs.Common.{length}
use Rattle.tr_recursion.proofs.recursion_forms.saying.+push_members.Given as goal

abbrev pub decreases-push_members : goal.decreases-push_members
decreases-push_members l = length l.defs.now
