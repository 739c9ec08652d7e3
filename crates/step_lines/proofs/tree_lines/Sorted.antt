-- What is well sorted, and what a store refuses.
use Rattle.std.proofs.Common.{◌≡◌, ◌↔◌, Bool, true, false, IsTrue, List, length, Some, sym, subst}
use Rattle.trees.specs.declared.Node.{Node}
use Rattle.trees.specs.Tree.{Tree, Leaf, One, Two, Three}
use Rattle.trees.specs.Node.{node_tree, parts_of, AreBelow}
use Rattle.trees.specs.Sorts.{Fits, WellSorted}

-- a tree of which each part fits does so at its top
pub fits_whole : (e : Tree) → WellSorted e → Fits e
fits_whole (Leaf h) w = w
fits_whole (One h a) w = w.0
fits_whole (Two h a b) w = w.0
fits_whole (Three h a b c) w = w.0

-- a node that a store refuses has no well-sorted tree
pub refused : (s : List Tree) (n : Node) (b : Bool) → AreBelow (length s) (parts_of n) → b ≡ false → (IsTrue b ↔ (AreBelow (length s) (parts_of n) × Fits (node_tree s n))) → (e : Tree) → Some (node_tree s n) ≡ Some e → WellSorted e → ⊥
refused s n b below f h e is w =
    let n' : node_tree s n ≡ e = cc in
    let t : b ≡ true = h.1 (below, fits_whole (node_tree s n) (subst WellSorted (sym n') w)) in
    absurd (cc)
