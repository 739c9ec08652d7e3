use Rattle.std.proofs.Common.{◌<◌, ◌+◌, ◌≤◌, min, refl, arith}
use Rattle.trees.specs.Tree.{loose}
use Rattle.trees.specs.Binding.{Bound, shifting}
use Rattle.trees.specs.Node.{tree_at}
use Rattle.trees.proofs.binders.Telling.{left_told}
use Rattle.trees.proofs.binders.Reading.{shift_left, put_told, raised, raised_above}
use Rattle.trees.proofs.binders.instances.RisingPut.is_put.Goals as goal

pub returns-then-loose-depth : goal.returns-then-loose-depth
returns-then-loose-depth c =
    let s = c.args.s.now in
    let e = tree_at s c.args.e in
    let up = c.args.self.now.up in
    let small : c.args.depth ≤ 18446744073709551615 = omega (arith, c.ranges.depth.fits) in
    let l : loose e ≤ min (0 + c.args.depth) 18446744073709551615 = omega (arith, c.loose.ensures, c.if-loose-depth.true) in
    left_told (shifting up 0) e c.args.depth (shift_left up 0 c.args.depth e l) (tree_at s c.args.made) c.same.result c.same.ensures.trees

pub returns-in-Bound : goal.returns-in-Bound
returns-in-Bound c =
    let s = c.args.s.now in
    let e = tree_at s c.args.e in
    let ty = tree_at s c.in-Bound.ty in
    let up = c.args.self.now.up in
    let i = c.in-Bound.index in
    let w = c.in-Bound.ensures.sorted in
    let q = c.in-Bound.ensures.tree in
    let l : min (0 + c.args.depth) 18446744073709551615 < loose e = omega (arith, c.loose.ensures, c.if-loose-depth.false) in
    put_told e ty i w q (shifting up 0) (λ _. refl) c.args.depth (raised_above e ty i w q up 0 c.args.depth l) (Bound (i + up) ty) (raised e ty i w q up 0 c.args.depth l) (tree_at s c.args.made) c.is_raised.result c.is_raised.ensures
