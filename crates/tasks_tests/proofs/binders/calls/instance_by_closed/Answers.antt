use Rattle.trees.specs.Node.{tree_at}
use Rattle.trees.proofs.Sizes.{sorted_fits}
use Rattle.trees.proofs.RaisesNoIndex.{closed_inst_fits}
use Rattle.tasks_tests.proofs.binders.calls.instance_by_closed.Goals as goal

pub inst-requires-clause-fits : goal.inst-requires-clause-fits
inst-requires-clause-fits c =
    let s = c.args.store.now in
    let body = c.laws.ensures.sorted c.args.body (c.holds.ensures.0 c.if-not-holds.false) in
    let by = c.laws.ensures.sorted c.args.by (c.holds-2.ensures.0 c.if-not-holds-2.false) in
    closed_inst_fits (tree_at s c.args.body) (tree_at s c.args.by) (sorted_fits (tree_at s c.args.body) body) (c.is_closed_term.ensures.loose c.if-not-is_closed_term.false) (sorted_fits (tree_at s c.args.by) by)
