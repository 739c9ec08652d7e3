-- Occurrences as they are gathered, each once, and the numbers that stand for them over a store.
use Rattle.std.specs.Prelude.{◌≡◌, ℕ, ◌<◌, Bool, if◌then◌else◌, List, [], ◌∷◌, ◌++◌, map, length, get_or, All, IsTrue}
use Rattle.std.specs.List.{list_any}
use Rattle.trees.specs.Tree.{Tree, Leaf, HEnd}
use Rattle.name_tables.specs.Occurrences.{Occurrence, occurrence, in_type, occurrences}
use Rattle.name_tables.specs.Tables.{is_same}

-- a symbol at the list of types of a number
abbrev pub occurrence_at : List Tree → ℕ × ℕ → Occurrence
occurrence_at s key = occurrence key.0 (get_or s key.1 (Leaf HEnd))

abbrev pub seen_occurrences : List Tree → List (ℕ × ℕ) → List Occurrence
seen_occurrences s keys = map (occurrence_at s) keys

abbrev pub has : List Occurrence → Occurrence → Bool
has os o = list_any (is_same o) os

-- with one more at the end, unless it is there
abbrev pub with_one : List Occurrence → Occurrence → List Occurrence
with_one os o = if has os o then os else os ++ o ∷ []

-- with one after the other of these
abbrev pub with_all : List Occurrence → List Occurrence → List Occurrence
with_all os [] = os
with_all os (p ∷ ps) = with_all (with_one os p) ps

abbrev pub AreIn : List Occurrence → List Occurrence → Type 0
AreIn os [] = Unit {0}
AreIn os (p ∷ ps) = IsTrue (has os p) × AreIn os ps

abbrev pub TypesAreIn : List Occurrence → List Occurrence → Type 0
TypesAreIn os [] = Unit {0}
TypesAreIn os (p ∷ ps) = AreIn os (in_type p.types) × TypesAreIn os ps

-- each type argument is there too
abbrev pub HasTypeArguments : List Occurrence → Type 0
HasTypeArguments os = TypesAreIn os os

abbrev pub KeyHeld : List Tree → ℕ × ℕ → Type 0
KeyHeld s key = key.1 < length s

abbrev pub KeysHeld : List Tree → List (ℕ × ℕ) → Type 0
KeysHeld s keys = All (KeyHeld s) keys

-- what has been gathered
pub record IsSeen (s : List Tree) (keys : List (ℕ × ℕ)) : Type 0 where
  pub held : KeysHeld s keys
  pub closed : HasTypeArguments (seen_occurrences s keys)

-- it has gained these
pub record Sees (s : List Tree) (old : List (ℕ × ℕ)) (ps : List Occurrence)
    (new : List (ℕ × ℕ)) : Type 0 where
  pub seen : IsSeen s new
  pub is : seen_occurrences s new ≡ with_all (seen_occurrences s old) ps

-- all that occurs in these terms is there
abbrev pub TermsAreIn : List Tree → List Occurrence → List ℕ → Type 0
TermsAreIn s os [] = Unit {0}
TermsAreIn s os (id ∷ ids) = AreIn os (occurrences (get_or s id (Leaf HEnd))) × TermsAreIn s os ids

-- what a walk has gathered, and the terms that it has done
pub record IsWalk (s : List Tree) (keys : List (ℕ × ℕ)) (ids : List ℕ) : Type 0 where
  pub seen : IsSeen s keys
  pub done : TermsAreIn s (seen_occurrences s keys) ids

-- a walk has gained these
pub record WalksTerms (s : List Tree) (old : List (ℕ × ℕ)) (ps : List Occurrence)
    (new : List (ℕ × ℕ)) (ids : List ℕ) : Type 0 where
  pub walk : IsWalk s new ids
  pub is : seen_occurrences s new ≡ with_all (seen_occurrences s old) ps

-- a set of things has gained these
pub record GainsKeys (s : List Tree) (old : List (ℕ × ℕ)) (ps : List Occurrence)
    (new : List (ℕ × ℕ)) : Type 0 where
  pub held : KeysHeld s new
  pub is : seen_occurrences s new ≡ with_all (seen_occurrences s old) ps
