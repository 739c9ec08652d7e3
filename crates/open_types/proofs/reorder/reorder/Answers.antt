use Rattle.std.proofs.Common.{sym, arith}
use Rattle.trees.specs.Node.{tree_at}
use Rattle.open_types.proofs.Reordering.{order_same}
use Rattle.open_types.proofs.reorder.reorder.Goals as goal

pub returns-then-is_in_order-clause-tree : goal.returns-then-is_in_order-clause-tree
returns-then-is_in_order-clause-tree c = sym (order_same c.args.places.now (c.is_in_order.ensures c.if-is_in_order.true) 0 (tree_at c.args.store.now c.args.body))

pub change_tree-requires-clause-fits : goal.change_tree-requires-clause-fits
change_tree-requires-clause-fits c = c.in_ok-look_at.ensures.fits 0 (omega arith)
