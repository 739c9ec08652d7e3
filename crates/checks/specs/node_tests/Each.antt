-- What holds of each node of a tree, and answers that are remembered by the numbers of trees.
use Rattle.std.specs.Prelude.{◌≡◌, ◌↔◌, ℕ, ◌<◌, nat_eq, Bool, IsTrue, List, length, get_or, Some}
use Rattle.indexmap.specs.IndexMap.{IndexMap, get}
use Rattle.trees.specs.declared.TermId.{TermId}
use Rattle.trees.specs.Tree.{Tree, Leaf, One, Two, Three, HEnd}
use Rattle.trees.specs.Node.{tree_at, Holds}

-- it holds of the tree and of each part of it
abbrev pub EachNode : (Tree → Type 0) → Tree → Type 0
EachNode P (Leaf h) = P (Leaf h)
EachNode P (One h a) = P (One h a) × EachNode P a
EachNode P (Two h a b) = P (Two h a b) × EachNode P a × EachNode P b
EachNode P (Three h a b c) = P (Three h a b c) × EachNode P a × EachNode P b × EachNode P c

-- each remembered answer is the answer for the tree of its number
abbrev pub AreAnswers : {S : Type 0} → (Tree → Type 0) → List Tree → IndexMap ℕ Bool S → Type 0
AreAnswers P s m = (k : ℕ) (v : Bool) → get nat_eq m k ≡ Some v
    → (k < length s) × (IsTrue v ↔ P (get_or s k (Leaf HEnd)))

-- what the answer for a tree asks for
pub record CanTell {S : Type 0} (P : Tree → Type 0) (s : List Tree) (m : IndexMap ℕ Bool S)
    (e : TermId) : Type 0 where
  pub held : Holds s e
  pub known : AreAnswers P s m

-- what it gives: the answer; and what is remembered stays right
pub record TellsEach {S : Type 0} (P : Tree → Type 0) (s : List Tree) (e : TermId)
    (m : IndexMap ℕ Bool S) (answer : Bool) : Type 0 where
  pub is : IsTrue answer ↔ P (tree_at s e)
  pub known : AreAnswers P s m
