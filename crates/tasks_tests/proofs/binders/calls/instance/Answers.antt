use Rattle.trees.specs.Node.{tree_at}
use Rattle.tasks_tests.proofs.binders.Small.{small_inst}
use Rattle.tasks_tests.proofs.binders.calls.instance.Goals as goal

pub inst-requires-clause-fits : goal.inst-requires-clause-fits
inst-requires-clause-fits c =
    let s = c.args.store.now in
    let k = c.is_small.ensures in
    let l = c.is_small-2.ensures in
    let t = c.if-not-is_small.false in
    let u = c.if-not-is_small-2.false in
    small_inst (tree_at s c.args.body) (tree_at s c.args.by) (k.loose t) (k.size t) (l.loose u) (l.size u) (c.is.ensures c.if-not-is.false)
