use Rattle.std.proofs.Common.{◌≡◌, ◌+◌, ◌<◌, ◌≤◌, min, refl, arith}
use Rattle.trees.specs.Tree.{loose}
use Rattle.trees.specs.Binding.{Bound, shifting}
use Rattle.trees.specs.Facts.{IndicesFit}
use Rattle.trees.specs.Sorts.{Fits}
use Rattle.trees.specs.Node.{tree_at}
use Rattle.trees.proofs.binders.Telling.{left_is}
use Rattle.trees.proofs.binders.Reading.{shift_left, put_made, put_fits, raised, raised_above}
use Rattle.trees.proofs.binders.ShiftingVisit.visit.Goals as goal

pub returns-then-loose-saturating_add-clause-visited : goal.returns-then-loose-saturating_add-clause-visited
returns-then-loose-saturating_add-clause-visited g c =
    let e = tree_at (g.G.Grow.trees c.args.g.now) c.args.e in
    let v = c.args.self.now in
    let n : c.loose.result ≡ loose e = rw c.store.ensures at c.loose.ensures in
    let l : loose e ≤ min (v.from + c.args.depth) 18446744073709551615 = omega (arith, n, c.if-loose-saturating_add.true, c.saturating_add.ensures) in
    (c.requires.held, left_is (shifting v.up v.from) e c.args.depth (shift_left v.up v.from c.args.depth e l))

pub overflow_add-index : goal.overflow_add-index
overflow_add-index g c =
    let s = g.G.Grow.trees c.args.g.now in
    let e = tree_at s c.args.e in
    let ty = tree_at s c.in-Bound.ty in
    let v = c.args.self.now in
    let i = c.in-Bound.index in
    let w = c.in-Bound.ensures.sorted in
    let q = c.in-Bound.ensures.tree in
    let n : c.loose.result ≡ loose e = rw c.store.ensures at c.loose.ensures in
    let l : min (v.from + c.args.depth) 18446744073709551615 < loose e = omega (arith, n, c.if-loose-saturating_add.false, c.saturating_add.ensures) in
    let above = raised_above e ty i w q v.up v.from c.args.depth l in
    let fit : IndicesFit (Bound (i + v.up) ty) = put_fits e ty i w q (shifting v.up v.from) (λ _. refl) c.args.depth above (Bound (i + v.up) ty) (raised e ty i w q v.up v.from c.args.depth l) c.requires.fits in
    omega (arith, fit.0)

pub add-requires-clause-fits : goal.add-requires-clause-fits
add-requires-clause-fits g c =
    let s = g.G.Grow.trees c.args.g.now in
    let e = tree_at s c.args.e in
    let ty = tree_at s c.in-Bound.ty in
    let v = c.args.self.now in
    let i = c.in-Bound.index in
    let w = c.in-Bound.ensures.sorted in
    let q = c.in-Bound.ensures.tree in
    let n : c.loose.result ≡ loose e = rw c.store.ensures at c.loose.ensures in
    let l : min (v.from + c.args.depth) 18446744073709551615 < loose e = omega (arith, n, c.if-loose-saturating_add.false, c.saturating_add.ensures) in
    let above = raised_above e ty i w q v.up v.from c.args.depth l in
    let fit : IndicesFit (Bound (i + v.up) ty) = put_fits e ty i w q (shifting v.up v.from) (λ _. refl) c.args.depth above (Bound (i + v.up) ty) (raised e ty i w q v.up v.from c.args.depth l) c.requires.fits in
    let kind : Fits (Bound i ty) = rw q at c.in-Bound.ensures.fits in
    (kind.0, fit.0)

pub returns-in_ok-add-in-Bound-clause-visited : goal.returns-in_ok-add-in-Bound-clause-visited
returns-in_ok-add-in-Bound-clause-visited g c =
    let s = g.G.Grow.trees c.args.g.now in
    let e = tree_at s c.args.e in
    let ty = tree_at s c.in-Bound.ty in
    let v = c.args.self.now in
    let i = c.in-Bound.index in
    let w = c.in-Bound.ensures.sorted in
    let q = c.in-Bound.ensures.tree in
    let n : c.loose.result ≡ loose e = rw c.store.ensures at c.loose.ensures in
    let l : min (v.from + c.args.depth) 18446744073709551615 < loose e = omega (arith, n, c.if-loose-saturating_add.false, c.saturating_add.ensures) in
    let above = raised_above e ty i w q v.up v.from c.args.depth l in (
      c.in_ok-add-in-Bound.ensures.held,
      put_made e ty i w q (shifting v.up v.from) (λ _. refl) c.args.depth above (Bound (i + v.up) ty) (raised e ty i w q v.up v.from c.args.depth l) _ c.in_ok-add-in-Bound.ensures.tree,
    )
