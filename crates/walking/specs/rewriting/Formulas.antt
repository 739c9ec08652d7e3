-- Functions on formulas that commute with types, and what a task and its formulas in a store are.
use Rattle.std.specs.Prelude.{◌≡◌, ℕ, List, [], get_or}
use Rattle.tasks.specs.trees.declared.TermId.{TermId}
use Rattle.tasks.specs.trees.declared.Sort.TheVariants.{Formula}
use Rattle.tasks.specs.trees.Tree.{Tree}
use Rattle.tasks.specs.trees.Node.{tree_at, Holds}
use Rattle.tasks.specs.trees.Binding.{inst_types, TyVar}
use Rattle.tasks.specs.trees.Sorts.{sort_of}
use Rattle.tasks.specs.declared.task.Task.{Task}
use Rattle.tasks.specs.Task.{TaskTree}
use Rattle.tasks.specs.Meaning.{task_at, TaskHeld}
use Rattle.tasks.specs.Vocabulary.{Vocabulary, of_task}
use Rattle.tasks.specs.Typing.{TypedUnder}
use Rattle.tasks.specs.Valid.{IsValid}
use Rattle.evidence.specs.images.typing_laws.HasTyping.{HasTyping, IsTypeAt}

-- what a formula at types becomes is what it becomes, at the types
abbrev pub CommutesWithTypes : Vocabulary → (Tree → Tree) → Type 0
CommutesWithTypes v g = (ys : List Tree) → ((j : ℕ) → IsTypeAt v (get_or ys j (TyVar j)))
    → (e : Tree) → sort_of e ≡ Formula → HasTyping v [] e
    → g (inst_types e ys) ≡ inst_types (g e) ys

-- a valid task whose numbers are held, for which a function is ready
pub record CanRewrite (ready : TaskTree → List Tree → Type 0) (s : List Tree)
    (task : Task) : Type 0 where
  pub held : TaskHeld s task
  pub valid : IsValid (task_at s task)
  pub is_ready : ready (task_at s task) s

-- the number of a closed formula of a task
pub record IsFormulaIn (s : List Tree) (t : TaskTree) (id : TermId) : Type 0 where
  pub held : Holds s id
  pub sort : sort_of (tree_at s id) ≡ Formula
  pub typed : TypedUnder (of_task t) [] (tree_at s id)
