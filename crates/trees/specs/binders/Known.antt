-- Results that are remembered by the number of a tree and a number of binders.
use Rattle.std.specs.Prelude.{◌≡◌, ℕ, ◌<◌, Bool, ◌&&◌, nat_eq, List, length, get_or, Some}
use Rattle.indexmap.specs.IndexMap.{IndexMap, get}
use Rattle.trees.specs.declared.TermId.{TermId}
use Rattle.trees.specs.Tree.{Tree, Leaf, HEnd}
use Rattle.trees.specs.Binding.{Change}
use Rattle.trees.specs.Node.{tree_at, Holds}
use Rattle.trees.specs.binders.Depth.{FitsUnder, IsChanged}

abbrev pub same_pair : ℕ × ℕ → ℕ × ℕ → Bool
same_pair x y = nat_eq x.0 y.0 && nat_eq x.1 y.1

-- each remembered number is that of the change of the tree under so many binders
abbrev pub AreRemembered : {S : Type 0} → Change → List Tree → IndexMap (ℕ × ℕ) TermId S → Type 0
AreRemembered f s m = (k d : ℕ) (v : TermId) → get same_pair m (k, d) ≡ Some v
    → (k < length s) × Holds s v × IsChanged f d (get_or s k (Leaf HEnd)) (tree_at s v)

-- what a rebuilding asks for: a visit is ready, the number is held, the indices of what is made
-- fit, and what is remembered is right
pub record CanRebuild {S : Type 0} (f : Change) (ready : Type 0) (s : List Tree)
    (m : IndexMap (ℕ × ℕ) TermId S) (e : TermId) (depth : ℕ) : Type 0 where
  pub is_ready : ready
  pub held : Holds s e
  pub fits : FitsUnder f depth (tree_at s e)
  pub known : AreRemembered f s m

-- what it gives: the number of the change of the tree; and what is remembered stays right
pub record IsRebuilt {S : Type 0} (f : Change) (e : Tree) (depth : ℕ) (s : List Tree)
    (m : IndexMap (ℕ × ℕ) TermId S) (id : TermId) : Type 0 where
  pub held : Holds s id
  pub is : IsChanged f depth e (tree_at s id)
  pub known : AreRemembered f s m
