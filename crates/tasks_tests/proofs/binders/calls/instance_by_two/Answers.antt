use Rattle.trees.specs.Node.{tree_at}
use Rattle.tasks_tests.proofs.binders.Small.{two_fit}
use Rattle.tasks_tests.proofs.binders.calls.instance_by_two.Goals as goal

pub inst_many-requires-clause-fits : goal.inst_many-requires-clause-fits
inst_many-requires-clause-fits c =
    let s = c.args.store.now in
    let sorted = c.laws.ensures.sorted in
    let body = sorted c.args.body (c.holds.ensures.0 c.if-not-holds.false) in
    let first = sorted c.args.first (c.holds-2.ensures.0 c.if-not-holds-2.false) in
    let second = sorted c.args.second (c.holds-3.ensures.0 c.if-not-holds-3.false) in
    let k = c.is_closed_term.ensures in
    let l = c.is_closed_term-2.ensures in
    let t = c.if-not-is_closed_term.false in
    let u = c.if-not-is_closed_term-2.false in
    two_fit (tree_at s c.args.first) (tree_at s c.args.second) (k.loose t) (l.loose u) first second (tree_at s c.args.body) body (k.sort t) (l.sort u)
