-- What is too large for a stage's task: a formula, the body of a declaration, declarations,
-- formulas, a task.
use Rattle.std.specs.Prelude.{ℕ, ◌<◌, ◌⊎◌, List}
use Rattle.trees.specs.Tree.{Tree, size, height}
use Rattle.tasks.specs.Task.{BodyTree, DeclarationTree, TaskTree, body_nodes, declaration_nodes, formula_nodes, nodes}
use Rattle.evidence.specs.stage_limits.Limits.{body_height, declaration_height, formula_height, task_height}

-- more tree nodes, or a greater height, than a task of a stage may have
abbrev pub IsAbove : ℕ → ℕ → Type 0
IsAbove nodes height = (1048576 < nodes) ⊎ (2000 < height)

abbrev pub IsLarge : Tree → Type 0
IsLarge e = IsAbove (size e) (height e)

abbrev pub AreLarge : List Tree → Type 0
AreLarge es = IsAbove (formula_nodes es) (formula_height es)

abbrev pub IsLargeBody : BodyTree → Type 0
IsLargeBody b = IsAbove (body_nodes b) (body_height b)

abbrev pub AreLargeDeclarations : List DeclarationTree → Type 0
AreLargeDeclarations ds = IsAbove (declaration_nodes ds) (declaration_height ds)

abbrev pub IsLargeTask : TaskTree → Type 0
IsLargeTask t = IsAbove (nodes t) (task_height t)
