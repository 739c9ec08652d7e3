-- Trees that are known to be without a parameter, by their numbers.
use Rattle.std.specs.Prelude.{◌≡◌, ℕ, nat_eq, true, false, List, get_or}
use Rattle.std.specs.HashSet.{HashSet, contains}
use Rattle.tasks.specs.trees.Tree.{Tree, Leaf, HEnd}
use Rattle.tasks.specs.trees.Facts.{has_param}

-- the trees of the numbers in a set don't have it
abbrev pub LackParameter : {S : Type 0} → ℕ → List Tree → HashSet ℕ S → Type 0
LackParameter n s set =
    (k : ℕ) → contains nat_eq set k ≡ true → has_param (get_or s k (Leaf HEnd)) n ≡ false
