use Rattle.std.proofs.Common.{ap, sym, ◌∙◌}
use Rattle.std.proofs.Math.IntN.{◌+ℤ◌, ◌*ℤ◌, neg_ℤ}
use Rattle.std.specs.Int.{w128}
use Rattle.std.proofs.lemmas.Int.{to_z-of_z}
use Rattle.linear_leaf.specs.Linear.{Sum}
use Rattle.step_reading.specs.shared_sums.Pending.{value_at}
use Rattle.step_reading.proofs.shared_sums.Steps.{sum_as, negated_is, plus_is, minus_is}
use Rattle.step_reading.proofs.shared_sums.pending.spread.Goals as goal

pub returns-in_ok-put_term-in-Negated-clause-told : goal.returns-in_ok-put_term-in-Negated-clause-told
returns-in_ok-put_term-in-Negated-clause-told c = λ v x h.
    let f = value_at c.args.ints.now c.args.store.now v in let n = c.args.n in
    sum_as f c.put_term.new.pending _ _ (negated_is x n (f c.in-Negated.a.0) ∙ ap (λ (r : Sum). x +ℤ n *ℤ r.value) (sym (c.in-Negated.ensures.reads v)))
    (c.in_ok-put_term-in-Negated.ensures.sum f x (neg_ℤ n) h (c.negate.ensures n (to_z-of_z w128 n c.ranges.n)))

pub returns-in_ok-put_term-in-Plus-2-clause-told : goal.returns-in_ok-put_term-in-Plus-2-clause-told
returns-in_ok-put_term-in-Plus-2-clause-told c = λ v x h.
    let f = value_at c.args.ints.now c.args.store.now v in let n = c.args.n in let i = to_z-of_z w128 n c.ranges.n in
    sum_as f c.put_term-in-Plus-2.new.pending _ _ (plus_is x n (f c.in-Plus.a.0) (f c.in-Plus.b.0) ∙ ap (λ (r : Sum). x +ℤ n *ℤ r.value) (sym (c.in-Plus.ensures.reads v)))
    (c.in_ok-put_term-in-Plus-2.ensures.sum f _ n (c.in_ok-put_term-in-Plus.ensures.sum f x n h i) i)

pub returns-in_ok-put_term-in-Minus-2-clause-told : goal.returns-in_ok-put_term-in-Minus-2-clause-told
returns-in_ok-put_term-in-Minus-2-clause-told c = λ v x h.
    let f = value_at c.args.ints.now c.args.store.now v in let n = c.args.n in let i = to_z-of_z w128 n c.ranges.n in
    sum_as f c.put_term-in-Minus-2.new.pending _ _ (minus_is x n (f c.in-Minus.a.0) (f c.in-Minus.b.0) ∙ ap (λ (r : Sum). x +ℤ n *ℤ r.value) (sym (c.in-Minus.ensures.reads v)))
    (c.in_ok-put_term-in-Minus-2.ensures.sum f _ (neg_ℤ n) (c.in_ok-put_term-in-Minus.ensures.sum f x n h i) (c.negate-in-Minus.ensures n i))
