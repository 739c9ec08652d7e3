use Rattle.std.proofs.Common.{◌≡◌, ◌-◌, ◌<◌, ◌≤◌, length, get_or, refl, arith}
use Rattle.trees.specs.declared.TermId.{TermId}
use Rattle.trees.specs.declared.Sort.TheVariants.{Term}
use Rattle.trees.specs.Tree.{loose}
use Rattle.trees.specs.Binding.{Bound, shift, instantiating_many}
use Rattle.trees.specs.Node.{tree_at}
use Rattle.trees.specs.binders.Visits.{trees_at}
use Rattle.trees.proofs.binders.Lists.{held_at, above_list, in_list}
use Rattle.trees.proofs.binders.Telling.{left_is, is_above}
use Rattle.trees.proofs.binders.Reading.{many_left, put_made, put_fits}
use Rattle.trees.proofs.binders.InstantiatingManyVisit.visit.Goals as goal

pub returns-then-loose-depth-clause-visited : goal.returns-then-loose-depth-clause-visited
returns-then-loose-depth-clause-visited g c =
    let s = g.G.Grow.trees c.args.g.now in
    let e = tree_at s c.args.e in
    let ts = trees_at s c.args.self.now.by.now in
    let n : c.loose.result ≡ loose e = rw c.store.ensures at c.loose.ensures in
    let l : loose e ≤ c.args.depth = omega (arith, n, c.if-loose-depth.true) in
    (c.requires.held, left_is (instantiating_many ts) e c.args.depth (many_left ts c.args.depth e l))

pub overflow_sub-index : goal.overflow_sub-index
overflow_sub-index g c =
    let s = g.G.Grow.trees c.args.g.now in
    let e = tree_at s c.args.e in
    let ty = tree_at s c.in-Bound.ty in
    let i = c.in-Bound.index in
    let q = c.in-Bound.ensures.tree in
    let n : c.loose.result ≡ loose e = rw c.store.ensures at c.loose.ensures in
    let l : c.args.depth < loose e = omega (arith, n, c.if-loose-depth.false) in
    let above : c.args.depth ≤ i = is_above e ty i c.in-Bound.ensures.sorted q c.args.depth l in
    above

pub overflow_sub-index-then-index-depth : goal.overflow_sub-index-then-index-depth
overflow_sub-index-then-index-depth g c =
    let s = g.G.Grow.trees c.args.g.now in
    let e = tree_at s c.args.e in
    let ty = tree_at s c.in-Bound.ty in
    let i = c.in-Bound.index in
    let q = c.in-Bound.ensures.tree in
    let n : c.loose.result ≡ loose e = rw c.store.ensures at c.loose.ensures in
    let l : c.args.depth < loose e = omega (arith, n, c.if-loose-depth.false) in
    let above : c.args.depth ≤ i = is_above e ty i c.in-Bound.ensures.sorted q c.args.depth l in
    above

pub shift-requires-clause-e_held : goal.shift-requires-clause-e_held
shift-requires-clause-e_held g c =
    let ids = c.args.self.now.by.now in
    held_at Term (g.G.Grow.trees c.args.g.now) ids (length ids - 1 - (c.in-Bound.index - c.args.depth)) (record { 0 = 0 }) (omega (arith, c.if-index-depth.true)) c.requires.ready

pub shift-requires-clause-fits : goal.shift-requires-clause-fits
shift-requires-clause-fits g c =
    let s = g.G.Grow.trees c.args.g.now in
    let e = tree_at s c.args.e in
    let ty = tree_at s c.in-Bound.ty in
    let i = c.in-Bound.index in
    let q = c.in-Bound.ensures.tree in
    let n : c.loose.result ≡ loose e = rw c.store.ensures at c.loose.ensures in
    let l : c.args.depth < loose e = omega (arith, n, c.if-loose-depth.false) in
    let above : c.args.depth ≤ i = is_above e ty i c.in-Bound.ensures.sorted q c.args.depth l in
    let ids = c.args.self.now.by.now in
    let k = length ids - 1 - (i - c.args.depth) in
    let t : TermId = record { 0 = 0 } in
    let value : (instantiating_many (trees_at s ids)).bound c.args.depth i ty ≡ shift (tree_at s (get_or ids k t)) c.args.depth 0 = in_list s ids c.args.depth i ty k t (omega (arith, above, c.if-index-depth.true)) above in
    put_fits e ty i c.in-Bound.ensures.sorted q (instantiating_many (trees_at s ids)) (λ _. refl) c.args.depth above (shift (tree_at s (get_or ids k t)) c.args.depth 0) value c.requires.fits

pub returns-in_ok-shift-in-Bound-clause-visited : goal.returns-in_ok-shift-in-Bound-clause-visited
returns-in_ok-shift-in-Bound-clause-visited g c =
    let s = g.G.Grow.trees c.args.g.now in
    let e = tree_at s c.args.e in
    let ty = tree_at s c.in-Bound.ty in
    let i = c.in-Bound.index in
    let q = c.in-Bound.ensures.tree in
    let n : c.loose.result ≡ loose e = rw c.store.ensures at c.loose.ensures in
    let l : c.args.depth < loose e = omega (arith, n, c.if-loose-depth.false) in
    let above : c.args.depth ≤ i = is_above e ty i c.in-Bound.ensures.sorted q c.args.depth l in
    let ids = c.args.self.now.by.now in
    let k = length ids - 1 - (i - c.args.depth) in
    let t : TermId = record { 0 = 0 } in
    let value : (instantiating_many (trees_at s ids)).bound c.args.depth i ty ≡ shift (tree_at s (get_or ids k t)) c.args.depth 0 = in_list s ids c.args.depth i ty k t (omega (arith, above, c.if-index-depth.true)) above in (
      c.in_ok-shift-in-Bound.ensures.held,
      put_made e ty i c.in-Bound.ensures.sorted q (instantiating_many (trees_at s ids)) (λ _. refl) c.args.depth above (shift (tree_at s (get_or ids k t)) c.args.depth 0) value _ c.in_ok-shift-in-Bound.ensures.tree,
    )

pub returns-in_ok-add-in-Bound-clause-visited : goal.returns-in_ok-add-in-Bound-clause-visited
returns-in_ok-add-in-Bound-clause-visited g c =
    let s = g.G.Grow.trees c.args.g.now in
    let e = tree_at s c.args.e in
    let ty = tree_at s c.in-Bound.ty in
    let i = c.in-Bound.index in
    let q = c.in-Bound.ensures.tree in
    let n : c.loose.result ≡ loose e = rw c.store.ensures at c.loose.ensures in
    let l : c.args.depth < loose e = omega (arith, n, c.if-loose-depth.false) in
    let above : c.args.depth ≤ i = is_above e ty i c.in-Bound.ensures.sorted q c.args.depth l in
    let ids = c.args.self.now.by.now in
    let value : (instantiating_many (trees_at s ids)).bound c.args.depth i ty ≡ Bound (i - length ids) ty = above_list s ids c.args.depth i ty (omega (arith, above, c.if-index-depth.false)) in (
      c.in_ok-add-in-Bound.ensures.held,
      put_made e ty i c.in-Bound.ensures.sorted q (instantiating_many (trees_at s ids)) (λ _. refl) c.args.depth above (Bound (i - length ids) ty) value _ c.in_ok-add-in-Bound.ensures.tree,
    )
