use Rattle.std.proofs.Common.{◌≡◌, true, false, refl, sym, ◌∙◌}
use Rattle.std.specs.Int.{w128}
use Rattle.std.proofs.lemmas.Int.{to_z-of_z}
use Rattle.trees.specs.Node.{tree_at}
use Rattle.linear_leaf.specs.Linear.{reading, zeros}
use Rattle.step_reading.specs.shared_sums.Pending.{value_at}
use Rattle.step_reading.proofs.shared_sums.Steps.{sum_as, atom_is, left_is, right_is}
use Rattle.step_reading.proofs.shared_sums.pending.spread_product.Goals.{else-x-via-then-x+else-y, else-x-via-else-x}
use Rattle.step_reading.proofs.shared_sums.pending.spread_product.Goals as goal

pub returns-then-y-clause-told : goal.returns-then-y-clause-told
returns-then-y-clause-told c = λ t p.
    (λ v. atom_is c.args.ints.now v t (tree_at c.args.store.now c.args.a) (tree_at c.args.store.now c.args.b) p (sym c.in_ok-x.ensures.known.told.has_atom ∙ c.if-x.true) (sym c.in_ok-y.ensures.known.told.has_atom ∙ c.if-y.true), refl)

pub returns-in_ok-put-clause-told : goal.returns-in_ok-put-clause-told
returns-in_ok-put-clause-told c = λ t p v x h.
    let z = c.args.ints.now in let s = c.args.store.now in
    let a = tree_at s c.args.a in let b = tree_at s c.args.b in
    let u = (reading z zeros a).value in
    let q : c.in_ok-x.x.has_atom ≡ false = elim c.else-x.branch [
      | else-x-via-then-x+else-y w ↦ absurd (let e : true ≡ false = sym c.if-y-2.true ∙ w.if-y.false in cc)
      | else-x-via-else-x w ↦ w.if-x.false
    ] in
    let i = to_z-of_z w128 c.args.n c.ranges.n in
    sum_as (value_at z s v) c.put.new.pending _ _ (left_is z v t a b p (sym c.in_ok-x.ensures.known.told.has_atom ∙ q) x c.args.n)
    (c.in_ok-put.ensures.sum (value_at z s v) x _ h (c.multiply.ensures u c.args.n c.in_ok-x.ensures.known.told.value i))

pub returns-in_ok-put-2-clause-told : goal.returns-in_ok-put-2-clause-told
returns-in_ok-put-2-clause-told c = λ t p v x h.
    let z = c.args.ints.now in let s = c.args.store.now in
    let a = tree_at s c.args.a in let b = tree_at s c.args.b in
    let u = (reading z zeros b).value in
    let i = to_z-of_z w128 c.args.n c.ranges.n in
    sum_as (value_at z s v) c.put-else-y-2.new.pending _ _ (right_is z v t a b p (sym c.in_ok-y.ensures.known.told.has_atom ∙ c.if-y-2.false) x c.args.n)
    (c.in_ok-put-2.ensures.sum (value_at z s v) x _ h (c.multiply-else-y-2.ensures u c.args.n c.in_ok-y.ensures.known.told.value i))
