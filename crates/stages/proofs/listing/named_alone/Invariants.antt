use Rattle.std.proofs.Common.{◌≡◌, take}
use Rattle.stages.proofs.listing.named_alone.Given as goal

abbrev pub invariant-loop-pair : goal.invariant-loop-pair
invariant-loop-pair l = l.copy.items ≡ take l.pair-index l.names
