use Rattle.std.proofs.Common.{arith}
use Rattle.trees.specs.Tree.{One, HBound}
use Rattle.trees.specs.Node.{tree_at}
use Rattle.trees.specs.Sorts.{Fits}
use Rattle.trees.proofs.store.plain.PlainStore.+loose.Goals as goal

pub overflow_add-i : goal.overflow_add-i
overflow_add-i t c =
    let fit : Fits (One (HBound c.in-Bound.i) (tree_at c.args.self.now c.in-Bound.ty)) = rw c.in-Bound.ensures.tree at c.in-Bound.ensures.fits in
    omega (arith, fit.1)
