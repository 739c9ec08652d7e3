use Rattle.std.proofs.Common.{◌≡◌, ◌-◌, ◌<◌, ◌≤◌, refl, arith}
use Rattle.trees.specs.Tree.{loose}
use Rattle.trees.specs.Binding.{Bound, instantiating}
use Rattle.trees.specs.Node.{tree_at}
use Rattle.trees.specs.laws.Indices.{inst_above}
use Rattle.trees.proofs.binders.Telling.{left_is, is_above}
use Rattle.trees.proofs.binders.Reading.{inst_left, put_made}
use Rattle.trees.proofs.binders.InstantiatingVisit.visit.Goals as goal

pub returns-then-loose-depth-clause-visited : goal.returns-then-loose-depth-clause-visited
returns-then-loose-depth-clause-visited g c =
    let s = g.G.Grow.trees c.args.g.now in
    let e = tree_at s c.args.e in
    let t = tree_at s c.args.self.now.by in
    let n : c.loose.result ≡ loose e = rw c.store.ensures at c.loose.ensures in
    let l : loose e ≤ c.args.depth = omega (arith, n, c.if-loose-depth.true) in
    (c.requires.held, left_is (instantiating t) e c.args.depth (inst_left t c.args.depth e l))

pub overflow_sub-index : goal.overflow_sub-index
overflow_sub-index g c =
    let s = g.G.Grow.trees c.args.g.now in
    let e = tree_at s c.args.e in
    let ty = tree_at s c.in-Bound.ty in
    let i = c.in-Bound.index in
    let q = c.in-Bound.ensures.tree in
    let n : c.loose.result ≡ loose e = rw c.store.ensures at c.loose.ensures in
    let l : c.args.depth < loose e = omega (arith, n, c.if-loose-depth.false) in
    let above : c.args.depth ≤ i = is_above e ty i c.in-Bound.ensures.sorted q c.args.depth l in
    omega (arith, above, c.if-index-depth.false)

pub returns-in_ok-add-in-Bound-clause-visited : goal.returns-in_ok-add-in-Bound-clause-visited
returns-in_ok-add-in-Bound-clause-visited g c =
    let s = g.G.Grow.trees c.args.g.now in
    let e = tree_at s c.args.e in
    let ty = tree_at s c.in-Bound.ty in
    let i = c.in-Bound.index in
    let q = c.in-Bound.ensures.tree in
    let n : c.loose.result ≡ loose e = rw c.store.ensures at c.loose.ensures in
    let l : c.args.depth < loose e = omega (arith, n, c.if-loose-depth.false) in
    let above : c.args.depth ≤ i = is_above e ty i c.in-Bound.ensures.sorted q c.args.depth l in
    let t = tree_at s c.args.self.now.by in
    let more : c.args.depth < i = omega (arith, above, c.if-index-depth.false) in (
      c.in_ok-add-in-Bound.ensures.held,
      put_made e ty i c.in-Bound.ensures.sorted q (instantiating t) (λ _. refl) c.args.depth above (Bound (i - 1) ty) (inst_above t c.args.depth i ty more) _ c.in_ok-add-in-Bound.ensures.tree,
    )
