-- Trees that are known to be typed as far as they go, by marks at their numbers.
use Rattle.std.specs.Prelude.{ℕ, ◌<◌, Bool, false, List, length, get_or, IsTrue}
use Rattle.tasks.specs.trees.Tree.{Tree, Leaf, HEnd}
use Rattle.tasks.specs.Task.{TaskTree}
use Rattle.kernel.specs.Open.{OpenIn}

-- the tree of this number is there, and typed so
pub record IsTypedAt (t : TaskTree) (s : List Tree) (k : ℕ) : Type 0 where
  pub held : k < length s
  pub typed : OpenIn t (get_or s k (Leaf HEnd))

abbrev pub has_mark : List Bool → ℕ → Bool
has_mark marks k = get_or marks k false

-- what is marked is
abbrev pub AreMarkedTyped : TaskTree → List Tree → List Bool → Type 0
AreMarkedTyped t s marks = (k : ℕ) → IsTrue (has_mark marks k) → IsTypedAt t s k
