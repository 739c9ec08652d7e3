use Rattle.open_types.proofs.unify_types.Bridge.{equation_is}
use Rattle.open_types.proofs.unify_types.has_types.Goals as goal

pub returns : goal.returns
returns c = equation_is c.args.store.now c.args.e c.requires c.node-left.ensures.sorted c.node-right.ensures.sorted
