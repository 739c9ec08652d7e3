-- What is kept of matches of which each use of a member passes something inside: how low the
-- variables may stand.
use Rattle.std.specs.Prelude.{◌≡◌, ◌↔◌, ℕ, ◌≤◌, Bool, IsTrue, List, [], ◌∷◌, get_or, Some}
use Rattle.indexmap.specs.IndexMap.{IndexMap, get}
use Rattle.trees.specs.declared.TermId.{TermId}
use Rattle.trees.specs.Tree.{Tree, Leaf, HEnd}
use Rattle.trees.specs.Node.{tree_at, Holds}
use Rattle.trees.specs.binders.Known.{same_pair}
use Rattle.tasks.specs.Task.{SymbolTree}
use Rattle.checks.specs.declared.decl_checks.standing.Standing.{Standing}
use Rattle.checks.specs.declared.decl_checks.standing.Standing.TheVariants.{Other, Whole, Inside}
use Rattle.checks.specs.decl_checks.Structure.{UsesPassInside}

-- standings by rank: a variable that is none of the argument stands lowest, one inside it highest
abbrev pub standing_rank : Standing → ℕ
standing_rank Other = 0
standing_rank Whole = 1
standing_rank Inside = 2

abbrev pub IsAtLeast : Standing → Standing → Type 0
IsAtLeast least found = standing_rank least ≤ standing_rank found

-- each place of a list stands at least as the same place of another list, which isn't longer
abbrev pub AreAtLeast : List Standing → List Standing → Type 0
AreAtLeast [] ts = Unit {0}
AreAtLeast (s ∷ ss) (t ∷ ts) = IsAtLeast s t × AreAtLeast ss ts
AreAtLeast (s ∷ ss) [] = ⊥

-- the lesser of two standings
abbrev pub lesser : Standing → Standing → Standing
lesser Other t = Other
lesser Whole Other = Other
lesser Whole t = Whole
lesser Inside t = t

-- and of each place of two lists
abbrev pub lessers : List Standing → List Standing → List Standing
lessers (s ∷ ss) (t ∷ ts) = lesser s t ∷ lessers ss ts
lessers _ _ = []

-- under the variables that are kept for it, each use of a member in a tree passes something inside
abbrev pub AreKept : {S : Type 0} → List SymbolTree → List (ℕ × ℕ) → List Tree
    → IndexMap (ℕ × ℕ) (List Standing) S → Type 0
AreKept symbols chosen s m = (k j : ℕ) (low : List Standing) → get same_pair m (k, j) ≡ Some low
    → UsesPassInside symbols chosen low (get_or s j (Leaf HEnd)) (get_or s k (Leaf HEnd))

-- what the answer for a tree asks for, where the branches around are of a match on a term
pub record CanPass {S : Type 0} (symbols : List SymbolTree) (chosen : List (ℕ × ℕ)) (s : List Tree)
    (m : IndexMap (ℕ × ℕ) (List Standing) S) (matched e : TermId) : Type 0 where
  pub held : Holds s e
  pub matched_held : Holds s matched
  pub kept : AreKept symbols chosen s m

-- what it gives: the answer; and what is kept stays right
pub record TellsUses {S : Type 0} (symbols : List SymbolTree) (chosen : List (ℕ × ℕ))
    (s : List Tree) (known : List Standing) (matched e : TermId)
    (m : IndexMap (ℕ × ℕ) (List Standing) S) (answer : Bool) : Type 0 where
  pub is : IsTrue answer ↔ UsesPassInside symbols chosen known (tree_at s matched) (tree_at s e)
  pub kept : AreKept symbols chosen s m
