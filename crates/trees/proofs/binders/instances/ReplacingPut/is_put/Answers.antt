use Rattle.std.proofs.Common.{◌≡◌, ◌-◌, ◌+◌, ◌<◌, ◌≤◌, refl, ap, ◌∙◌, arith}
use Rattle.trees.specs.Tree.{loose}
use Rattle.trees.specs.Binding.{Bound, instantiating}
use Rattle.trees.specs.Node.{tree_at}
use Rattle.trees.specs.laws.Indices.{inst_above}
use Rattle.trees.proofs.binders.Telling.{left_told, is_above}
use Rattle.trees.proofs.binders.Reading.{inst_left, put_told}
use Rattle.trees.proofs.binders.instances.ReplacingPut.is_put.Goals as goal

pub returns-then-loose-depth : goal.returns-then-loose-depth
returns-then-loose-depth c =
    let s = c.args.s.now in
    let e = tree_at s c.args.e in
    let t = tree_at s c.args.self.now.by in
    let l : loose e ≤ c.args.depth = omega (arith, c.loose.ensures, c.if-loose-depth.true) in
    left_told (instantiating t) e c.args.depth (inst_left t c.args.depth e l) (tree_at s c.args.made) c.same.result c.same.ensures.trees

pub overflow_sub-index : goal.overflow_sub-index
overflow_sub-index c =
    let s = c.args.s.now in
    let e = tree_at s c.args.e in
    let ty = tree_at s c.in-Bound.ty in
    let i = c.in-Bound.index in
    let q = c.in-Bound.ensures.tree in
    let l : c.args.depth < loose e = omega (arith, c.loose.ensures, c.if-loose-depth.false) in
    let above : c.args.depth ≤ i = is_above e ty i c.in-Bound.ensures.sorted q c.args.depth l in
    omega (arith, above, c.if-index-depth.false)

pub returns-else-index-depth : goal.returns-else-index-depth
returns-else-index-depth c =
    let s = c.args.s.now in
    let e = tree_at s c.args.e in
    let ty = tree_at s c.in-Bound.ty in
    let i = c.in-Bound.index in
    let q = c.in-Bound.ensures.tree in
    let l : c.args.depth < loose e = omega (arith, c.loose.ensures, c.if-loose-depth.false) in
    let above : c.args.depth ≤ i = is_above e ty i c.in-Bound.ensures.sorted q c.args.depth l in
    let t = tree_at s c.args.self.now.by in
    let more : c.args.depth < i = omega (arith, above, c.if-index-depth.false) in
    let value : (instantiating t).bound c.args.depth i ty ≡ Bound (i - 1 + 0) ty = inst_above t c.args.depth i ty more ∙ ap (λ j. Bound j ty) (omega arith) in
    put_told e ty i c.in-Bound.ensures.sorted q (instantiating t) (λ _. refl) c.args.depth above (Bound (i - 1 + 0) ty) value (tree_at s c.args.made) c.is_raised.result c.is_raised.ensures
