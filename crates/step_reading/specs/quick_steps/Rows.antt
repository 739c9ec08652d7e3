-- The row of `replace`, by what its places have.
use Rattle.std.specs.Prelude.{◌≡◌, List, [], ◌∷◌, Option, Some, IsSomeAnd}
use Rattle.tasks.specs.trees.Tree.{Tree}
use Rattle.tasks.specs.trees.Sorts.{type_of}
use Rattle.tasks.specs.trees.Binding.{inst}
use Rattle.tasks.specs.Task.{TaskTree}
use Rattle.rules.specs.Rows.{Adds, IsTemplate}

-- one side of an equation in the place of the other in a formula, which is a template at that side
abbrev pub ReplacesSide : TaskTree → Option (Tree × Tree) → Option Tree → List Tree → Tree
    → List (List Tree) → Type 0
ReplacesSide t sides formula q e ps =
    IsSomeAnd sides (λ p. IsSomeAnd (type_of p.0) (λ ty. IsTemplate t ty e)
    × (formula ≡ Some (inst e p.0)) × Adds q ps ((inst e p.1 ∷ []) ∷ []))
