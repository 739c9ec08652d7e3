-- Symbols as they are gathered in a set, and the trees that are done.
use Rattle.std.specs.Prelude.{◌≡◌, ℕ, ◌||◌, List, IsTrue}
use Rattle.trees.specs.Tree.{Tree}
use Rattle.trees.specs.Node.{tree_at}
use Rattle.theory_states.specs.goal_tasks.Named.{named, is_among}

-- a set has gained these
pub record GainsSymbols (old new ks : List ℕ) : Type 0 where
  pub each : (k : ℕ) → is_among new k ≡ (is_among old k || is_among ks k)

-- these are among the others
pub record AreAmong (found ks : List ℕ) : Type 0 where
  pub each : (k : ℕ) → IsTrue (is_among ks k) → IsTrue (is_among found k)

-- the symbols of the trees with these numbers are there
pub record AreGathered (s : List Tree) (found ids : List ℕ) : Type 0 where
  pub each : (id : ℕ) → IsTrue (is_among ids id)
      → AreAmong found (named (tree_at s (record { 0 = id })))

-- a walk has gained these, and what it has done is there
pub record Walks (s : List Tree) (old new done ks : List ℕ) : Type 0 where
  pub gains : GainsSymbols old new ks
  pub is_done : AreGathered s new done
