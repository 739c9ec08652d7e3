use Rattle.std.proofs.Common.{◌≡◌, ◌≤◌, length, drop}
use Rattle.trees.specs.Node.{tree_at, Holds, Grows}
use Rattle.tasks.specs.Meaning.{trees_at}
use Rattle.step_lines.specs.tree_lines.Named.{cells}
use Rattle.step_lines.proofs.tree_lines.nodes.cell_list.Given as goal

abbrev pub invariant-loop-i : goal.invariant-loop-i
invariant-loop-i l = record {
  within : l.i ≤ length l.items;
  grows : Grows l.fn.store l.store;
  held : Holds l.store l.list;
  tree : tree_at l.store l.list ≡ cells (trees_at l.fn.store (drop l.i l.items));
}

abbrev pub decreases-loop-i : goal.decreases-loop-i
decreases-loop-i l = l.i
