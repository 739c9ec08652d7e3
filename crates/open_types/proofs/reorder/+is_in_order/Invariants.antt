use Rattle.std.proofs.Common.{length}
use Rattle.open_types.proofs.reorder.+is_in_order.Given as goal

abbrev pub decreases-is_in_order : goal.decreases-is_in_order
decreases-is_in_order l = length l.places.now
