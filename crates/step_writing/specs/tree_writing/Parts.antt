-- The parts of trees, and trees that are marked by number with all their parts.
use Rattle.std.specs.Prelude.{◌≡◌, ◌⊎◌, ℕ, ◌<◌, Bool, false, List, length, get_or, All, IsTrue}
use Rattle.tasks.specs.trees.declared.TermId.{TermId}
use Rattle.tasks.specs.trees.declared.Parts.{Parts}
use Rattle.tasks.specs.trees.declared.Parts.TheVariants as parts
use Rattle.tasks.specs.trees.Tree.{Tree, Leaf, One, Two, Three, HEnd}
use Rattle.tasks.specs.trees.Node.{tree_at}
use Rattle.tasks.specs.Meaning.{trees_at}

-- a tree is in another, or is that one
abbrev pub IsSubtree : Tree → Tree → Type 0
IsSubtree e (Leaf h) = e ≡ Leaf h
IsSubtree e (One h a) = (e ≡ One h a) ⊎ IsSubtree e a
IsSubtree e (Two h a b) = (e ≡ Two h a b) ⊎ (IsSubtree e a ⊎ IsSubtree e b)
IsSubtree e (Three h a b c) =
    (e ≡ Three h a b c) ⊎ (IsSubtree e a ⊎ (IsSubtree e b ⊎ IsSubtree e c))

-- it is in one of these
pub record StandsIn (roots : List Tree) (e : Tree) : Type 0 where
  pub place : ℕ
  pub within : place < length roots
  pub part : IsSubtree e (get_or roots place (Leaf HEnd))

abbrev pub is_marked : List Bool → ℕ → Bool
is_marked marks k = get_or marks k false

abbrev pub IsMarked : List Bool → ℕ → Type 0
IsMarked marks k = IsTrue (is_marked marks k)

-- a number is marked, and what else was
pub record Marks (old new : List Bool) (place : ℕ) : Type 0 where
  pub as_long : length new ≡ length old
  pub own : IsMarked new place
  pub kept : (k : ℕ) → IsMarked old k → IsMarked new k
  pub only : (k : ℕ) → IsMarked new k → IsMarked old k ⊎ (k ≡ place)

abbrev pub IsOneOf : ℕ → Parts → Type 0
IsOneOf k parts.None = ⊥
IsOneOf k (parts.One a) = k ≡ a.0
IsOneOf k (parts.Two a b) = (k ≡ a.0) ⊎ (k ≡ b.0)
IsOneOf k (parts.Three a b c) = (k ≡ a.0) ⊎ ((k ≡ b.0) ⊎ (k ≡ c.0))

abbrev pub PartsMarked : List Bool → Parts → Type 0
PartsMarked marks parts.None = Unit {0}
PartsMarked marks (parts.One a) = IsMarked marks a.0
PartsMarked marks (parts.Two a b) = IsMarked marks a.0 × IsMarked marks b.0
PartsMarked marks (parts.Three a b c) = IsMarked marks a.0 × IsMarked marks b.0 × IsMarked marks c.0

-- the numbers of children are marked, and what else was
pub record MarksParts (old new : List Bool) (p : Parts) : Type 0 where
  pub as_long : length new ≡ length old
  pub own : PartsMarked new p
  pub kept : (k : ℕ) → IsMarked old k → IsMarked new k
  pub only : (k : ℕ) → IsMarked new k → IsMarked old k ⊎ IsOneOf k p

-- a tree has a marked number below this one
pub record HasMark (s : List Tree) (marks : List Bool) (k : ℕ) (e : Tree) : Type 0 where
  pub id : TermId
  pub below : id.0 < k
  pub is : tree_at s id ≡ e
  pub mark : IsMarked marks id.0

-- so has each child
abbrev pub ChildrenMarked : List Tree → List Bool → ℕ → Tree → Type 0
ChildrenMarked s marks k (Leaf h) = Unit {0}
ChildrenMarked s marks k (One h a) = HasMark s marks k a
ChildrenMarked s marks k (Two h a b) = HasMark s marks k a × HasMark s marks k b
ChildrenMarked s marks k (Three h a b c) =
    HasMark s marks k a × HasMark s marks k b × HasMark s marks k c

-- these trees are marked, and of those that are marked each is held and is in one of these
pub record RootsMarked (s : List Tree) (roots : List TermId) (marks : List Bool) : Type 0 where
  pub own : All (λ (r : TermId). IsMarked marks r.0) roots
  pub held : (k : ℕ) → IsMarked marks k → k < length s
  pub parts : (k : ℕ) → IsMarked marks k → StandsIn (trees_at s roots) (get_or s k (Leaf HEnd))

-- so are all that are in them
pub record AreMarked (s : List Tree) (roots : List TermId) (marks : List Bool) : Type 0 where
  pub first : RootsMarked s roots marks
  pub children : (k : ℕ) → IsMarked marks k → ChildrenMarked s marks k (get_or s k (Leaf HEnd))
