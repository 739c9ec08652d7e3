-- What the row of `matchdef` is told by: a pattern asked of a closed term, and the parts of a
-- `match`.
use Rattle.std.specs.Prelude.{◌≡◌, ℕ, ◌-◌, List, length, get_or}
use Rattle.trees.specs.declared.TermId.{TermId}
use Rattle.trees.specs.Tree.{Tree, Leaf, HEnd, loose}
use Rattle.trees.specs.Node.{tree_at, Holds}
use Rattle.rules.specs.declared.tried.Tried.{Tried}
use Rattle.rules.specs.Meaning.{TriedHeld}

-- a term of a list, counted from the last one
abbrev pub from_last : List Tree → ℕ → Tree
from_last ts back = get_or ts (length ts - 1 - back) (Leaf HEnd)

-- the numbers are held in the store at which the rule is tried, and the term is closed
pub record IsTriedReady (x : Tried) (pattern term : TermId) (s : List Tree) : Type 0 where
  pub tried : TriedHeld x
  pub store : x.store.now ≡ s
  pub pattern_held : Holds s pattern
  pub term_held : Holds s term
  pub closed : loose (tree_at s term) ≡ 0

-- scrutinee, first pattern and body, and the list of the other branches
abbrev pub match_parts_at : List Tree → TermId × TermId × TermId × TermId
    → Tree × Tree × Tree × Tree
match_parts_at s p = (tree_at s p.0, tree_at s p.1, tree_at s p.2, tree_at s p.3)

abbrev pub MatchPartsHeld : List Tree → TermId × TermId × TermId × TermId → Type 0
MatchPartsHeld s p = Holds s p.0 × Holds s p.1 × Holds s p.2 × Holds s p.3
