use Rattle.step_lines.proofs.tree_lines.Sorted.{refused}
use Rattle.step_lines.proofs.tree_lines.nodes.add_node.Goals as goal

pub add-requires-clause-held : goal.add-requires-clause-held
add-requires-clause-held c = c.requires

pub add-requires-clause-fits : goal.add-requires-clause-fits
add-requires-clause-fits c = (c.accepts.ensures.0 c.if-accepts.true).1

pub returns-else-accepts-clause-made : goal.returns-else-accepts-clause-made
returns-else-accepts-clause-made c = refused c.args.store.now c.args.node c.accepts.result c.requires c.if-accepts.false c.accepts.ensures
