use Rattle.std.proofs.Common.{◌≡◌, ℕ, nat_eq, filter, take}
use Rattle.tr_discriminate.proofs.wanted_search.asking.with_symbol.Given as goal

abbrev pub invariant-loop-key : goal.invariant-loop-key
invariant-loop-key l = l.found.items ≡ filter (λ (k : ℕ × ℕ). nat_eq l.symbol k.0) (take l.key-index l.set)
