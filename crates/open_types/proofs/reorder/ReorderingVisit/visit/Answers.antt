use Rattle.std.proofs.Common.{◌≡◌, ◌+◌, ◌-◌, ◌<◌, ◌≤◌, get_or, refl, arith}
use Rattle.trees.specs.Tree.{loose}
use Rattle.trees.specs.Binding.{Bound}
use Rattle.trees.specs.Facts.{IndicesFit}
use Rattle.trees.specs.Sorts.{Fits}
use Rattle.trees.specs.Node.{tree_at}
use Rattle.trees.proofs.binders.Telling.{left_is, is_above}
use Rattle.trees.proofs.binders.Reading.{put_made, put_fits}
use Rattle.open_types.specs.Patterns.{reordering}
use Rattle.open_types.proofs.Reordering.{reorder_left, own_place, high_place}
use Rattle.open_types.proofs.reorder.ReorderingVisit.visit.Goals as goal

pub returns-then-loose-depth-clause-visited : goal.returns-then-loose-depth-clause-visited
returns-then-loose-depth-clause-visited g c =
    let s = g.G.Grow.trees c.args.g.now in
    let e = tree_at s c.args.e in
    let ps = c.args.self.now.places.now in
    let n : c.loose.result ≡ loose e = rw c.store.ensures at c.loose.ensures in
    let l : loose e ≤ c.args.depth = omega (arith, n, c.if-loose-depth.true) in
    (c.requires.held, left_is (reordering ps) e c.args.depth (reorder_left ps c.args.depth e l))

pub overflow_sub-inner : goal.overflow_sub-inner
overflow_sub-inner g c =
    let s = g.G.Grow.trees c.args.g.now in
    let e = tree_at s c.args.e in
    let n : c.loose.result ≡ loose e = rw c.store.ensures at c.loose.ensures in
    let l : c.args.depth < loose e = omega (arith, n, c.if-loose-depth.false) in
    is_above e (tree_at s c.in-Bound.ty) c.in-Bound.index c.in-Bound.ensures.sorted c.in-Bound.ensures.tree c.args.depth l

pub overflow_add-depth : goal.overflow_add-depth
overflow_add-depth g c =
    let s = g.G.Grow.trees c.args.g.now in
    let e = tree_at s c.args.e in
    let ty = tree_at s c.in-Bound.ty in
    let i = c.in-Bound.index in
    let d = c.args.depth in
    let ps = c.args.self.now.places.now in
    let w = c.in-Bound.ensures.sorted in
    let q = c.in-Bound.ensures.tree in
    let n : c.loose.result ≡ loose e = rw c.store.ensures at c.loose.ensures in
    let l : d < loose e = omega (arith, n, c.if-loose-depth.false) in
    let above : d ≤ i = is_above e ty i w q d l in
    let fit : IndicesFit (Bound (d + get_or ps (i - d) 0) ty) = put_fits e ty i w q (reordering ps) (λ _. refl) d above (Bound (d + get_or ps (i - d) 0) ty) (own_place ps d i ty above c.if-inner-self.true) c.requires.fits in
    omega (arith, fit.0)

pub add-requires-clause-fits : goal.add-requires-clause-fits
add-requires-clause-fits g c =
    let s = g.G.Grow.trees c.args.g.now in
    let e = tree_at s c.args.e in
    let ty = tree_at s c.in-Bound.ty in
    let i = c.in-Bound.index in
    let d = c.args.depth in
    let ps = c.args.self.now.places.now in
    let w = c.in-Bound.ensures.sorted in
    let q = c.in-Bound.ensures.tree in
    let n : c.loose.result ≡ loose e = rw c.store.ensures at c.loose.ensures in
    let l : d < loose e = omega (arith, n, c.if-loose-depth.false) in
    let above : d ≤ i = is_above e ty i w q d l in
    let fit : IndicesFit (Bound (d + get_or ps (i - d) 0) ty) = put_fits e ty i w q (reordering ps) (λ _. refl) d above (Bound (d + get_or ps (i - d) 0) ty) (own_place ps d i ty above c.if-inner-self.true) c.requires.fits in
    let kind : Fits (Bound i ty) = rw q at c.in-Bound.ensures.fits in
    (kind.0, fit.0)

pub returns-in_ok-add-in-Bound-clause-visited : goal.returns-in_ok-add-in-Bound-clause-visited
returns-in_ok-add-in-Bound-clause-visited g c =
    let s = g.G.Grow.trees c.args.g.now in
    let e = tree_at s c.args.e in
    let ty = tree_at s c.in-Bound.ty in
    let i = c.in-Bound.index in
    let d = c.args.depth in
    let ps = c.args.self.now.places.now in
    let w = c.in-Bound.ensures.sorted in
    let q = c.in-Bound.ensures.tree in
    let n : c.loose.result ≡ loose e = rw c.store.ensures at c.loose.ensures in
    let l : d < loose e = omega (arith, n, c.if-loose-depth.false) in
    let above : d ≤ i = is_above e ty i w q d l in (
      c.in_ok-add-in-Bound.ensures.held,
      put_made e ty i w q (reordering ps) (λ _. refl) d above (Bound (d + get_or ps (i - d) 0) ty) (own_place ps d i ty above c.if-inner-self.true) _ c.in_ok-add-in-Bound.ensures.tree,
    )

pub returns-else-inner-self-clause-visited : goal.returns-else-inner-self-clause-visited
returns-else-inner-self-clause-visited g c =
    let s = g.G.Grow.trees c.args.g.now in
    let e = tree_at s c.args.e in
    let ty = tree_at s c.in-Bound.ty in
    let i = c.in-Bound.index in
    let d = c.args.depth in
    let ps = c.args.self.now.places.now in
    let w = c.in-Bound.ensures.sorted in
    let q = c.in-Bound.ensures.tree in
    let n : c.loose.result ≡ loose e = rw c.store.ensures at c.loose.ensures in
    let l : d < loose e = omega (arith, n, c.if-loose-depth.false) in
    let above : d ≤ i = is_above e ty i w q d l in
    (c.requires.held, put_made e ty i w q (reordering ps) (λ _. refl) d above (Bound i ty) (high_place ps d i ty above c.if-inner-self.false) e q)
