use Rattle.std.proofs.Common.{rules, FitsSigned}
use Rattle.std.specs.Int.{w128}
use Rattle.std.proofs.lemmas.Int.{to_z-of_z}
use Rattle.std.specs.Option.{option_map}
use Rattle.step_reading.specs.shared_sums.Pending.{value_at}
use Rattle.step_reading.specs.shared_sums.Uses.{bounded_of}
use Rattle.step_reading.proofs.shared_sums.Steps.{sum_as}
use Rattle.step_reading.proofs.shared_sums.Closed.{all_sum}
use Rattle.step_reading.proofs.shared_sums.told.+add_all.Goals as goal

pub returns-clause-sum : goal.returns-clause-sum
returns-clause-sum t c = λ v n h.
    let i : FitsSigned w128 c.in-Some.first.now.1 = search rules in
    let z = c.args.x.now.ints.now in let s = c.args.x.now.store.now in
    sum_as (value_at z s v) c.add_all.new.pending _ _
    (all_sum z _ v n c.args.uses.now c.in-Some.more.now c.in-Some.first.now (option_map (bounded_of s) c.bounded_at.result) c.in-Some.ensures.cases.0 c.bounded_at.ensures.tree)
    (c.in_ok-add_all.ensures.sum v _ (rw (to_z-of_z w128 c.in-Some.first.now.1 i) at (c.in_ok-add_bounded.ensures.sum v n h)))
