use Rattle.trees.specs.Node.{tree_at}
use Rattle.tasks_tests.proofs.binders.Small.{small_close}
use Rattle.tasks_tests.proofs.binders.calls.closed_over.Goals as goal

pub close_param-requires-clause-fits : goal.close_param-requires-clause-fits
close_param-requires-clause-fits c =
    let k = c.is_small.ensures in
    let t = c.if-not-is_small.false in
    small_close (tree_at c.args.store.now c.args.e) c.args.param (k.loose t) (k.size t)
