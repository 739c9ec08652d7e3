use Rattle.std.proofs.Common.{Bool, ap, sym, ◌∙◌}
use Rattle.std.proofs.Math.IntN.{◌+ℤ◌, ◌-ℤ◌, ◌*ℤ◌, neg_ℤ}
use Rattle.std.specs.Int.{w128}
use Rattle.std.proofs.lemmas.Int.{to_z-of_z}
use Rattle.linear_leaf.specs.Linear.{addend}
use Rattle.step_reading.specs.shared_sums.Pending.{value_at}
use Rattle.step_reading.proofs.shared_sums.Steps.{sum_as}
use Rattle.step_reading.proofs.shared_sums.Closed.{strict_part, plain_part}
use Rattle.step_reading.proofs.shared_sums.told.add_part.Goals as goal

pub returns-then-d-clause-sum : goal.returns-then-d-clause-sum
returns-then-d-clause-sum c = λ v n h.
    let f = value_at c.args.x.now.ints.now c.args.x.now.store.now v in let m = c.args.multiplier in let i = to_z-of_z w128 m c.ranges.multiplier in
    let l = f c.args.d.left.0 in let r = f c.args.d.right.0 in
    sum_as f c.put_constant.new.pending _ _ (strict_part n m l r ∙ ap (λ (b : Bool). n +ℤ m *ℤ ((l -ℤ r) +ℤ addend b)) (sym c.if-d.true))
    (c.put_constant.ensures.sum f _ m (c.in_ok-put_term-2.ensures.sum f _ (neg_ℤ m) (c.in_ok-put_term.ensures.sum f n m h i) (c.negate.ensures m i)) i)

pub returns-else-d-clause-sum : goal.returns-else-d-clause-sum
returns-else-d-clause-sum c = λ v n h.
    let f = value_at c.args.x.now.ints.now c.args.x.now.store.now v in let m = c.args.multiplier in let i = to_z-of_z w128 m c.ranges.multiplier in
    let l = f c.args.d.left.0 in let r = f c.args.d.right.0 in
    sum_as f c.put_term-2.new.pending _ _ (plain_part n m l r ∙ ap (λ (b : Bool). n +ℤ m *ℤ ((l -ℤ r) +ℤ addend b)) (sym c.if-d.false))
    (c.in_ok-put_term-2.ensures.sum f _ (neg_ℤ m) (c.in_ok-put_term.ensures.sum f n m h i) (c.negate.ensures m i))
