use Rattle.trees.specs.Tree.{Leaf, HTrue, HFalse}
use Rattle.tr_simplify.proofs.Nodes.{other_constant, known_constant}
use Rattle.tr_simplify.proofs.constants.constant_of.Goals as goal

pub returns-in-True : goal.returns-in-True
returns-in-True g c = known_constant (g.G.Grow.trees c.args.g.now) c.store.result.now c.store.ensures c.args.id (Leaf HTrue) c.in-True.ensures.tree

pub returns-in-False : goal.returns-in-False
returns-in-False g c = known_constant (g.G.Grow.trees c.args.g.now) c.store.result.now c.store.ensures c.args.id (Leaf HFalse) c.in-False.ensures.tree

pub returns-in_default : goal.returns-in_default
returns-in_default g c = other_constant (g.G.Grow.trees c.args.g.now) c.store.result.now c.store.ensures c.args.id c.node.result c.node.ensures.tree c.in_default.not-True c.in_default.not-False
