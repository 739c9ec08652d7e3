-- The laws of the crate, as statements.
use Rattle.std.specs.Prelude.{◌≡◌, ℕ, ◌≤◌, [], ◌∷◌, Err}
use Rattle.trees.specs.Tree.{Tree}
use Rattle.tasks.specs.Task.{TaskTree, made, nodes}
use Rattle.tasks.specs.Roles.{role}
use Rattle.tasks.specs.Copying.{with_goal}
use Rattle.tasks.specs.Vocabulary.{of_task}
use Rattle.tasks.specs.Valid.{IsValid}
use Rattle.evidence.specs.stage_limits.Limits.{TooLarge, limited}
use Rattle.evidence.specs.changed_tasks.Changed.{changed_task, KeepsFormulas}
use Rattle.evidence.specs.changed_tasks.Limits.{IsLarge, IsLargeTask}

-- the same symbols in the same order, each made as the same
abbrev pub ChangedTasksDeclareTheSame : Type 0
ChangedTasksDeclareTheSame = (g : Tree → Tree) (t : TaskTree)
    → (made (changed_task g t).decls ≡ made t.decls)
    × ((k : ℕ) → role (changed_task g t) k ≡ role t k)

-- all formulas, or the goal alone
abbrev pub ChangedTasksAreValid : Type 0
ChangedTasksAreValid =
    (g : Tree → Tree) (t : TaskTree) → KeepsFormulas (of_task t) g → IsValid t
    → (nodes (changed_task g t) ≤ 1048576 → IsValid (changed_task g t))
    × (nodes (with_goal t (g t.goal)) ≤ 1048576 → IsValid (with_goal t (g t.goal)))

-- a task that is too large, as it is where its goal is, is refused
abbrev pub LargeTasksAreRefused : Type 0
LargeTasksAreRefused = (t : TaskTree)
    → (IsLarge t.goal → IsLargeTask t) × (IsLargeTask t → limited (t ∷ []) ≡ Err TooLarge)
