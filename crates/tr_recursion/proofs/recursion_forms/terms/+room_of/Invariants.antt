use Rattle.std.proofs.Common.{length}
use Rattle.tr_recursion.proofs.recursion_forms.terms.+room_of.Given as goal

abbrev pub decreases-room_of : goal.decreases-room_of
decreases-room_of l = length l.terms.now
