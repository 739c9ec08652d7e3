use Rattle.std.proofs.Common.{◌≤◌, length}
use Rattle.step_writing.proofs.tree_writing.MarkedParts.{MarkedFrom}
use Rattle.step_writing.proofs.tree_writing.marking.mark_trees.Given as goal

abbrev pub invariant-loop-i : goal.invariant-loop-i
invariant-loop-i l = record {
  within : l.i ≤ length l.marks.items;
  from : MarkedFrom l.store l.roots l.marks.items l.i;
}

abbrev pub decreases-loop-i : goal.decreases-loop-i
decreases-loop-i l = l.i
