use Rattle.tr_simplify.proofs.Nodes.{lawless}
use Rattle.tr_simplify.proofs.linking.has_laws.Goals as goal

pub returns-in_default : goal.returns-in_default
returns-in_default c =
    let n = c.in_default in
    lawless c.args.store.now c.args.e c.node.result c.node.ensures.tree n.not-Not n.not-Join n.not-Forall n.not-Exists n.not-If
