-- What the steps of carrying tasks through stages promise.
use Rattle.std.specs.Prelude.{◌≡◌, ℕ, List, [], ◌∷◌, ◌++◌, All, Result, Ok, length}
use Rattle.tasks.specs.trees.Tree.{Tree}
use Rattle.tasks.specs.declared.task.Task.{Task}
use Rattle.tasks.specs.Task.{TaskTree}
use Rattle.tasks.specs.Meaning.{task_at, tasks_at, TaskHeld, TasksHeld}
use Rattle.tasks.specs.Valid.{IsValid}

-- valid tasks whose numbers are held
pub record AreTasks (s : List Tree) (tasks : List Task) : Type 0 where
  pub held : TasksHeld s tasks
  pub valid : All IsValid (tasks_at s tasks)

-- and they are those that something gives
pub record AreTasksOf {E : Type 0} (said : Result (List TaskTree) E) (s : List Tree)
    (tasks : List Task) : Type 0 where
  pub are : AreTasks s tasks
  pub is : said ≡ Ok (tasks_at s tasks)

-- the tasks that something gives, so many, were put after others, in a store that has grown
pub record ArePushed {E : Type 0} (said : Result (List TaskTree) E) (s : List Tree)
    (old : List Task) (s' : List Tree) (new : List Task) (n : ℕ) : Type 0 where
  pub are : AreTasks s' new
  pub given : List TaskTree
  pub gives : said ≡ Ok given
  pub is : tasks_at s' new ≡ tasks_at s old ++ given
  pub count : n ≡ length given

-- a task that stands for the same, whatever the store
pub record IsCopy (task copy : Task) : Type 0 where
  pub tree : (s : List Tree) → task_at s copy ≡ task_at s task
  pub held : (s : List Tree) → TaskHeld s task → TaskHeld s copy

-- such a task alone
pub record IsAlone (task : Task) (tasks : List Task) : Type 0 where
  pub tree : (s : List Tree) → tasks_at s tasks ≡ task_at s task ∷ []
  pub held : (s : List Tree) → TaskHeld s task → TasksHeld s tasks
