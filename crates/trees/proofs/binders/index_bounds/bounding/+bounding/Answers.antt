use Rattle.std.proofs.Common.{arith}
use Rattle.trees.specs.Node.{tree_at}
use Rattle.trees.proofs.binders.index_bounds.Fits.{small_above}
use Rattle.trees.proofs.binders.index_bounds.bounding.+bounding.Goals as goal

pub tree_bound-returns-then-size-lt-NODES : goal.tree_bound-returns-then-size-lt-NODES
tree_bound-returns-then-size-lt-NODES t c = record { above = omega (arith, small_above (tree_at c.args.store.now c.args.e), c.loose.ensures, c.size.ensures); known = c.requires.known }
