use Rattle.std.proofs.Common.{take}
use Rattle.trees.specs.Node.{tree_at, Holds}
use Rattle.clones.specs.Mapped.{mapped}
use Rattle.clones.proofs.Loops.{Copied}
use Rattle.clones.proofs.copies.map_trees.Given as goal

abbrev pub invariant-loop-tree : goal.invariant-loop-tree
invariant-loop-tree l = Copied tree_at Holds mapped l.morphism l.initial.store l.store l.known (take l.tree-index l.trees) l.out.items
