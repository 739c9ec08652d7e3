use Rattle.std.proofs.Common.{All}
use Rattle.trees.specs.Node.{Holds}
use Rattle.kernel_tests.proofs.tree_writing.lines.held_of.Given as goal

abbrev pub invariant-loop-id : goal.invariant-loop-id
invariant-loop-id g l = All (Holds l.store) l.all.items
