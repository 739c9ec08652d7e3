-- The name of a symbol of a task.
use Rattle.std.specs.Prelude.{◌≡◌, ℕ, List}
use Rattle.trees.specs.Tree.{Tree}
use Rattle.tasks.specs.declared.task.Task.{Task}
use Rattle.tasks.specs.Task.{symbol_or}
use Rattle.tasks.specs.Meaning.{symbols_at}

-- whatever the store: names are texts
abbrev pub IsNameOf : Task → ℕ → List ℕ → Type 0
IsNameOf t k name = (s : List Tree) → name ≡ (symbol_or (symbols_at s t.sig.value.symbols) k).name
