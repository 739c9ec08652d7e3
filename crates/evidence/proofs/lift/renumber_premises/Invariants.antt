use Rattle.std.proofs.Common.{◌≡◌, map, take, get_or}
use Rattle.evidence.proofs.lift.renumber_premises.Given as goal

abbrev pub invariant-loop-k : goal.invariant-loop-k
invariant-loop-k l = l.made.items ≡ map (λ k. get_or l.numbers k 0) (take l.k-index l.premises)
