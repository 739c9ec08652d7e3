use Rattle.std.proofs.Common.{◌≡◌, None}
use Rattle.tasks.specs.trees.Node.{tree_at}
use Rattle.tasks.specs.trees.Sorts.{type_of}
use Rattle.tr_if.proofs.places.type_of_first.Goals as goal

pub unreachable-requires : goal.unreachable-requires
unreachable-requires c =
    let q : type_of (tree_at c.store.result.now c.args.whole) ≡ None = c.in-None.ensures in
    let r = c.requires.typed.1 in
    let s = c.store.ensures in
    cc (q, r, s)
