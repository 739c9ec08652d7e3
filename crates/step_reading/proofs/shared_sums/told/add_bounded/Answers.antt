use Rattle.std.proofs.Common.{ap, sym, ◌∙◌, ◌≡◌, arith}
use Rattle.std.proofs.Math.IntN.{pos, ◌+ℤ◌}
use Rattle.std.proofs.lemmas.Int.{ints}
use Rattle.std.specs.Option.{option_map}
use Rattle.linear_leaf.specs.Linear.{part}
use Rattle.step_reading.specs.shared_sums.Pending.{value_at}
use Rattle.step_reading.specs.shared_sums.Uses.{bounded_of}
use Rattle.step_reading.proofs.shared_sums.Steps.{sum_as}
use Rattle.step_reading.proofs.shared_sums.told.add_bounded.Goals as goal

pub returns-in-None-clause-sum : goal.returns-in-None-clause-sum
returns-in-None-clause-sum c = λ v n h.
    let z = c.args.x.now.ints.now in let s = c.args.x.now.store.now in
    let e : n ≡ n +ℤ pos 0 = omega (arith, ints) in
    sum_as (value_at z s v) c.args.pending.now n _ (e ∙ ap (λ o. n +ℤ part z v c.args.multiplier (option_map (bounded_of s) o)) (sym c.in-None.is)) h
