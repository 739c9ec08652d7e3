-- The instances of each symbol, as they are gathered for a table.
use Rattle.std.specs.Prelude.{◌≡◌, ℕ, ◌<◌, if◌then◌else◌, List, [], ◌∷◌, ◌++◌, filter, length, get_or, All, Option}
use Rattle.trees.specs.Tree.{Tree}
use Rattle.trees.specs.declared.ints.Ints.{Ints}
use Rattle.tasks.specs.Task.{declared}
use Rattle.tasks.specs.Meaning.{task_at}
use Rattle.tasks.specs.declared.task.Task.{Task}
use Rattle.name_tables.specs.Occurrences.{Occurrence, whole_occurrence}
use Rattle.name_tables.specs.Tables.{is_interpreted, is_instance_of}
use Rattle.name_tables.specs.Seen.{occurrence_at, seen_occurrences, KeysHeld}

abbrev pub in_group : List Tree → ℕ → List (ℕ × ℕ) → List (ℕ × ℕ)
in_group s k keys = filter (λ (key : ℕ × ℕ). is_instance_of k (occurrence_at s key)) keys

-- there are groups up to that of a symbol
pub record IsFilled (old new : List (List (ℕ × ℕ))) (symbol : ℕ) : Type 0 where
  pub within : symbol < length new
  pub held : (s : List Tree) → All (KeysHeld s) old → All (KeysHeld s) new
  pub same : (k : ℕ) → get_or new k [] ≡ get_or old k []

-- one key more, in the group of its symbol
pub record IsKeyPushed (s : List Tree) (old new : List (List (ℕ × ℕ))) (key : ℕ × ℕ) : Type 0 where
  pub held : All (KeysHeld s) old → All (KeysHeld s) new
  pub each : (k : ℕ) → get_or new k [] ≡ get_or old k [] ++ in_group s k (key ∷ [])

-- for each symbol its instances among these
pub record AreGroups (s : List Tree) (keys : List (ℕ × ℕ))
    (groups : List (List (ℕ × ℕ))) : Type 0 where
  pub held : All (KeysHeld s) groups
  pub each : (k : ℕ) → get_or groups k [] ≡ in_group s k keys

-- what is added of a symbol
abbrev pub instances_in : List Tree → Option Ints → List (List (ℕ × ℕ)) → ℕ → List Occurrence
instances_in s ints groups k =
    if is_interpreted ints k then whole_occurrence k
    ∷ [] else seen_occurrences s (get_or groups k [])

-- they are the symbols of its tree, over any store
abbrev pub AreDeclaredSymbols : Task → List ℕ → Type 0
AreDeclaredSymbols t ks = (s : List Tree) → ks ≡ declared (task_at s t)
