-- The least numbers above the indices of bound variables, and what is remembered of them.
use Rattle.std.specs.Prelude.{◌≡◌, ℕ, ◌+◌, ◌<◌, ◌≤◌, nat_eq, max, List, [], ◌∷◌, length, get_or, Some}
use Rattle.indexmap.specs.IndexMap.{IndexMap, get}
use Rattle.trees.specs.declared.TermId.{TermId}
use Rattle.trees.specs.Tree.{Tree, Leaf, One, Two, Three, Head, HBound, HEnd}
use Rattle.trees.specs.Node.{tree_at, Holds}

abbrev pub one_above : Head → ℕ → ℕ
one_above (HBound i) n = max (i + 1) n
one_above _ n = n

-- the least number above each index
abbrev pub above_indices : Tree → ℕ
above_indices (Leaf h) = 0
above_indices (One h a) = one_above h (above_indices a)
above_indices (Two h a b) = max (above_indices a) (above_indices b)
above_indices (Three h a b c) = max (above_indices a) (max (above_indices b) (above_indices c))

-- each index of each tree is below the number
abbrev pub AreIndicesWithin : List Tree → ℕ → List TermId → Type 0
AreIndicesWithin s room [] = Unit {0}
AreIndicesWithin s room (id ∷ ids) =
    (above_indices (tree_at s id) ≤ room) × AreIndicesWithin s room ids

-- each remembered number is above each index of the tree
abbrev pub AreIndexBounds : {S : Type 0} → List Tree → IndexMap ℕ ℕ S → Type 0
AreIndexBounds s m = (k v : ℕ) → get nat_eq m k ≡ Some v
    → (k < length s) × (above_indices (get_or s k (Leaf HEnd)) ≤ v)

-- what the number for a tree asks for
pub record CanBound {S : Type 0} (s : List Tree) (m : IndexMap ℕ ℕ S) (e : TermId) : Type 0 where
  pub held : Holds s e
  pub known : AreIndexBounds s m

-- what it gives: a number above each index of the tree; and what is remembered stays right
pub record IsBounded {S : Type 0} (s : List Tree) (e : TermId) (m : IndexMap ℕ ℕ S)
    (n : ℕ) : Type 0 where
  pub above : above_indices (tree_at s e) ≤ n
  pub known : AreIndexBounds s m
