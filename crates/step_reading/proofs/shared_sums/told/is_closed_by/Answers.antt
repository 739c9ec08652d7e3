use Rattle.std.proofs.Common.{rules, ◌≤◌, ◌^◌, map, refl, FitsSigned, arith}
use Rattle.std.proofs.Math.IntN.{pos}
use Rattle.std.specs.Int.{w128}
use Rattle.std.proofs.lemmas.Int.{ints, to_z-of_z}
use Rattle.trees.specs.Node.{tree_at}
use Rattle.linear_leaf.specs.Linear.{weight}
use Rattle.step_reading.specs.shared_sums.Pending.{value_at}
use Rattle.step_reading.proofs.shared_sums.Closed.{start_sum, closed_if, closed_above, not_closed}
use Rattle.step_reading.proofs.shared_sums.told.is_closed_by.Goals as goal

pub returns-then-not-cancels : goal.returns-then-not-cancels
returns-then-not-cancels c =
    let z = c.args.ints.now in let s = c.args.store.now in let p = c.nothing-pending.result in (
      λ e. absurd (cc e),
      λ k. absurd (not_closed z s (map (tree_at s) c.args.sequent.now) c.args.uses.now c.add_all.new.pending c.all_cancel.new.pending
          (λ v. c.in_ok-add_all.ensures.sum v (pos 0) (start_sum p.constant p.multiples.entries c.nothing-pending.ensures.constant c.nothing-pending.ensures.multiples (value_at z s v)))
          (rw c.in-Some.is refl) (rw c.if-not-cancels.true at c.in_ok-cancels.ensures) k),
    )

pub returns : goal.returns
returns c =
    let z = c.args.ints.now in let s = c.args.store.now in let p = c.nothing-pending.result in
    let ts = map (tree_at s) c.args.sequent.now in
    let i : FitsSigned w128 c.in-Some.constant = search rules in
    let l : weight z ts c.args.uses.now ≤ 2 ^ 126 = search rules in
    let h = rw c.if-not-cancels.false at c.in_ok-cancels.ensures in (
      λ e. closed_if z s ts c.args.uses.now c.add_all.new.pending c.all_cancel.new.pending
          (λ v. c.in_ok-add_all.ensures.sum v (pos 0) (start_sum p.constant p.multiples.entries c.nothing-pending.ensures.constant c.nothing-pending.ensures.multiples (value_at z s v)))
          (c.are_uses.ensures.0 c.if-not-are_uses.false) l c.in-Some.constant c.in-Some.is h (let f = rw (to_z-of_z w128 c.in-Some.constant i) at e in grind (arith, ints, f)),
      λ k.
          let g = closed_above z s ts c.args.uses.now c.add_all.new.pending c.all_cancel.new.pending
          (λ v. c.in_ok-add_all.ensures.sum v (pos 0) (start_sum p.constant p.multiples.entries c.nothing-pending.ensures.constant c.nothing-pending.ensures.multiples (value_at z s v)))
          c.in-Some.constant c.in-Some.is h k in rw (to_z-of_z w128 c.in-Some.constant i) (grind (arith, ints, g)),
    )
