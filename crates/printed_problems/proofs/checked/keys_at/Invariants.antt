use Rattle.std.proofs.Common.{◌≡◌, take}
use Rattle.printed_problems.specs.Checked.{keys_at}
use Rattle.printed_problems.proofs.checked.keys_at.Given as goal

abbrev pub invariant-loop-place : goal.invariant-loop-place
invariant-loop-place l = l.made.items ≡ keys_at l.keys (take l.place-index l.places)
