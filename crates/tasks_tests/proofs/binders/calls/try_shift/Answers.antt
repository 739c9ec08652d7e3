use Rattle.trees.specs.Node.{tree_at}
use Rattle.tasks_tests.proofs.binders.Small.{small_shift}
use Rattle.tasks_tests.proofs.binders.calls.try_shift.Goals as goal

pub shift-requires-clause-fits : goal.shift-requires-clause-fits
shift-requires-clause-fits c =
    let k = c.is_small.ensures in
    let t = c.if-not-is_small.false in
    small_shift (tree_at c.args.store.now c.args.e) c.args.up c.args.from (k.loose t) (k.size t) c.if-up-ge1000.false
