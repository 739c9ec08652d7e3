use Rattle.std.proofs.Common.{arith}
use Rattle.trees.specs.Node.{tree_at}
use Rattle.tasks.specs.Meaning.{task_at}
use Rattle.tasks.specs.Vocabulary.{of_task}
use Rattle.tr_let.proofs.Nodes.{other_stays, let_node, value_term}
use Rattle.tr_let.proofs.lets.LetsTaskRule.at_node.Goals as goal

pub put_value-requires-clause-value_held : goal.put_value-requires-clause-value_held
put_value-requires-clause-value_held g c = omega (arith, c.in-Let.ensures.below.0, c.requires.held)

pub put_value-requires-clause-body_held : goal.put_value-requires-clause-body_held
put_value-requires-clause-body_held g c = omega (arith, c.in-Let.ensures.below.1, c.requires.held)

pub put_value-requires-clause-term : goal.put_value-requires-clause-term
put_value-requires-clause-term g c =
    let s = g.G.Grow.trees c.args.g.now in
    let is = let_node s c.store.result.now c.store.ensures c.args.e c.in-Let.value c.in-Let.body c.in-Let.ensures.tree in
    value_term (of_task (task_at s c.args.task.now)) (tree_at s c.args.e) (tree_at s c.in-Let.value) (tree_at s c.in-Let.body) is c.requires.typed

pub put_value-requires-clause-node : goal.put_value-requires-clause-node
put_value-requires-clause-node g c = let_node (g.G.Grow.trees c.args.g.now) c.store.result.now c.store.ensures c.args.e c.in-Let.value c.in-Let.body c.in-Let.ensures.tree

pub returns-in_default-clause-tree : goal.returns-in_default-clause-tree
returns-in_default-clause-tree g c =
    other_stays (g.G.Grow.trees c.args.g.now) c.store.result.now c.store.ensures c.args.e c.node.result c.node.ensures.tree c.in_default.not-Let
