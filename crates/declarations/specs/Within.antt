-- Vocabularies that differ in what patterns may name, and trees that no pattern's constructor is
-- in.
use Rattle.std.specs.Prelude.{◌≡◌, ℕ, IsTrue}
use Rattle.trees.specs.Tree.{Tree, Leaf, One, Two, Three, Head, HPatCon}
use Rattle.tasks.specs.Vocabulary.{Vocabulary}

-- it has the same entries, and all that terms, formulas and types of the other may name
pub record NamesAll (v w : Vocabulary) : Type 0 where
  pub symbols : v.symbols ≡ w.symbols
  pub rigid : (k : ℕ) → IsTrue (v.rigid k) → IsTrue (w.rigid k)
  pub usable : (k : ℕ) → IsTrue (v.usable k) → IsTrue (w.usable k)

abbrev pub IsNoPattern : Head → Type 0
IsNoPattern (HPatCon k) = ⊥
IsNoPattern _ = Unit {0}

-- no pattern names a constructor in it, as where there is no `match`
abbrev pub MatchesNone : Tree → Type 0
MatchesNone (Leaf h) = Unit {0}
MatchesNone (One h a) = MatchesNone a
MatchesNone (Two h a b) = MatchesNone a × MatchesNone b
MatchesNone (Three h a b c) = IsNoPattern h × MatchesNone a × MatchesNone b × MatchesNone c
