-- What is asked of the things of a table.
use Rattle.std.specs.Prelude.{◌≡◌, ℕ, Bool, if◌then◌else◌, List, [], ◌∷◌}
use Rattle.trees.specs.Tree.{Tree}
use Rattle.tasks.specs.Task.{TaskTree, symbol_or}
use Rattle.tasks.specs.Meaning.{symbols_at, task_at}
use Rattle.tasks.specs.declared.task.Task.{Task}
use Rattle.drivers.specs.declared.driver_parts.driver.Driver.{Driver}
use Rattle.name_tables.specs.Occurrences.{Occurrence, occurrence}
use Rattle.name_tables.specs.Seen.{seen_occurrences}
use Rattle.printed_problems.specs.declared.places.Question.{Question}
use Rattle.printed_problems.specs.declared.places.Question.TheVariants.{IsBare, IsSort, IsDeclared}
use Rattle.printed_problems.specs.Problems.{is_kind, is_sort, is_declared_symbol, places_from}
use Rattle.printed_problems.specs.Faults.{is_bare}

abbrev pub asks : Question → Driver → TaskTree → Occurrence → Bool
asks IsBare d t o = is_bare d t o
asks IsSort d t o = is_sort d t o
asks IsDeclared d t o = is_declared_symbol d t o

-- whatever the store, and at whatever types
abbrev pub IsKindOf : Task → ℕ → Bool → Type 0
IsKindOf t k told =
    (s : List Tree) → told ≡ is_kind (symbol_or (symbols_at s t.sig.value.symbols) k).kind

abbrev pub IsQuestionAnswered : Question → Driver → Task → ℕ → Bool → Type 0
IsQuestionAnswered q d t k told =
    (s : List Tree) (types : Tree) → told ≡ asks q d (task_at s t) (occurrence k types)

abbrev pub place_if : ℕ → Bool → List ℕ
place_if place told = if told then place ∷ [] else []

abbrev pub ArePlaces : Question → Driver → Task → List (ℕ × ℕ) → List ℕ → Type 0
ArePlaces q d t keys places =
    (s : List Tree) → places ≡ places_from (asks q d (task_at s t)) 0 (seen_occurrences s keys)
