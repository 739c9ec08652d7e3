use Rattle.std.proofs.Common.{◌+◌, ◌≤◌, refl}
use Rattle.trees.specs.Tree.{loose, above_params}
use Rattle.trees.specs.Binding.{Bound, closing}
use Rattle.trees.specs.Node.{tree_at}
use Rattle.trees.proofs.binders.Telling.{left_is}
use Rattle.trees.proofs.binders.Reading.{closing_left, closing_low, closed_above, closed_made, other_left, put_made}
use Rattle.trees.proofs.binders.ClosingVisit.visit.Goals as goal

pub returns-then-is_left-clause-visited : goal.returns-then-is_left-clause-visited
returns-then-is_left-clause-visited g c =
    let e = tree_at (g.G.Grow.trees c.args.g.now) c.args.e in
    let n = c.args.self.now.param in
    let l : loose e ≤ c.args.depth = rw c.store.ensures at (c.if-is_left.ensures.loose refl) in
    let p : above_params e ≤ n = rw c.store.ensures at (c.if-is_left.ensures.params refl) in
    (c.requires.held, left_is (closing n) e c.args.depth (closing_left n c.args.depth e l p))

pub returns-then-index-depth-clause-visited : goal.returns-then-index-depth-clause-visited
returns-then-index-depth-clause-visited g c =
    let s = g.G.Grow.trees c.args.g.now in
    let e = tree_at s c.args.e in
    let n = c.args.self.now.param in
    (c.requires.held, left_is (closing n) e c.args.depth (closing_low n c.args.depth c.in-Bound.index e (tree_at s c.in-Bound.ty) c.in-Bound.ensures.sorted c.in-Bound.ensures.tree c.if-index-depth.true))

pub returns-in_ok-add-in-Bound-clause-visited : goal.returns-in_ok-add-in-Bound-clause-visited
returns-in_ok-add-in-Bound-clause-visited g c =
    let s = g.G.Grow.trees c.args.g.now in
    let ty = tree_at s c.in-Bound.ty in
    let n = c.args.self.now.param in
    let i = c.in-Bound.index in (
      c.in_ok-add-in-Bound.ensures.held,
      put_made (tree_at s c.args.e) ty i c.in-Bound.ensures.sorted c.in-Bound.ensures.tree (closing n) (λ _. refl) c.args.depth c.if-index-depth.false (Bound (i + 1) ty)
          (closed_above n c.args.depth i ty c.if-index-depth.false) _ c.in_ok-add-in-Bound.ensures.tree,
    )

pub returns-in_ok-add-in-Param-clause-visited : goal.returns-in_ok-add-in-Param-clause-visited
returns-in_ok-add-in-Param-clause-visited g c =
    let s = g.G.Grow.trees c.args.g.now in
    let n = c.args.self.now.param in (
      c.in_ok-add-in-Param.ensures.held,
      closed_made n c.args.depth c.in-Param.number (tree_at s c.args.e) (tree_at s c.in-Param.ty) c.in-Param.ensures.sorted c.in-Param.ensures.tree c.if-number-self.true c.requires.fits _ c.in_ok-add-in-Param.ensures.tree,
    )

pub returns-else-number-self-clause-visited : goal.returns-else-number-self-clause-visited
returns-else-number-self-clause-visited g c =
    let s = g.G.Grow.trees c.args.g.now in
    let e = tree_at s c.args.e in
    let n = c.args.self.now.param in
    (c.requires.held, left_is (closing n) e c.args.depth (λ d k. other_left n c.args.depth c.in-Param.number e (tree_at s c.in-Param.ty) c.in-Param.ensures.sorted c.in-Param.ensures.tree c.if-number-self.false d))
