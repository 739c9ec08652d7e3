-- A task carried through stages, level by level, and how far the tasks of a level are derived.
use Rattle.std.specs.Prelude.{◌≡◌, ℕ, ◌≤◌, List, [], ◌∷◌, All, drop, length, map, take, Ok}
use Rattle.tasks.specs.trees.Tree.{Tree}
use Rattle.tasks.specs.declared.task.Task.{Task}
use Rattle.tasks.specs.Task.{TaskTree}
use Rattle.tasks.specs.Meaning.{tasks_at, TasksHeld}
use Rattle.kernel.specs.rules.declared.rule.Step.{Step}
use Rattle.kernel.specs.rules.Trees.{StepTree}
use Rattle.evidence.specs.Stages.{StageEquation, PartsClose, PartsHeld, parts_at, task_or}
use Rattle.stages.specs.declared.task_levels.Level.{Level}
use Rattle.stages.specs.declared.task_levels.TaskLevels.{TaskLevels}
use Rattle.stages.specs.Steps.{AreTasks}
use Rattle.stages.specs.Lifted.{ListsHaveSequents}

-- the tasks that a stage is given, and how many tasks each of them becomes
pub record LevelTree : Type 0 where
  pub tasks : List TaskTree
  pub counts : List ℕ

abbrev pub level_at : List Tree → Level → LevelTree
level_at s l = record { tasks = tasks_at s l.tasks.items; counts = l.counts.items }

abbrev pub levels_at : List Tree → List Level → List LevelTree
levels_at s ls = map (level_at s) ls

-- each task becomes so many of the tasks that come next
abbrev pub BecomeEach : StageEquation → List TaskTree → List ℕ → List TaskTree → Type 0
BecomeEach equation [] [] us = us ≡ []
BecomeEach equation (t ∷ ts) (n ∷ ns) us =
    (n ≤ length us) × (equation t ≡ Ok (take n us)) × BecomeEach equation ts ns (drop n us)
BecomeEach equation _ _ us = ⊥

-- the tasks of the first level, or those after the last stage
abbrev pub next_tasks : List LevelTree → List TaskTree → List TaskTree
next_tasks [] last = last
next_tasks (l ∷ ls) last = l.tasks

-- each level becomes the next one by its stage
abbrev pub AreLevels : List StageEquation → List LevelTree → List TaskTree → Type 0
AreLevels [] [] last = Unit {0}
AreLevels (e ∷ es) (l ∷ ls) last =
    BecomeEach e l.tasks l.counts (next_tasks ls last) × AreLevels es ls last
AreLevels _ _ last = ⊥

-- its tasks are valid, and their numbers are held
abbrev pub IsLevelHeld : List Tree → Level → Type 0
IsLevelHeld s l = AreTasks s l.tasks.items

-- a task carried through stages: the levels that they are given, and the tasks after the last one
pub record IsCarried (equations : List StageEquation) (s : List Tree) (t : TaskTree)
    (levels : List Level) (tasks : List Task) : Type 0 where
  pub levels_are : All (IsLevelHeld s) levels
  pub are : AreTasks s tasks
  pub first : next_tasks (levels_at s levels) (tasks_at s tasks) ≡ t ∷ []
  pub become : AreLevels equations (levels_at s levels) (tasks_at s tasks)

-- the task that is carried
abbrev pub carried_from : List Tree → TaskLevels → TaskTree
carried_from s c = task_or (next_tasks (levels_at s c.levels.items) (tasks_at s c.tasks.items)) 0

-- tasks become others by an equation, so many each, and lists of steps refute those
pub record IsRefutedLevel (equation : StageEquation) (s : List Tree) (tasks : List Task)
    (counts : List ℕ) (made : List Task) (parts : List (List Step)) : Type 0 where
  pub are : AreTasks s tasks
  pub made_held : TasksHeld s made
  pub become : BecomeEach equation (tasks_at s tasks) counts (tasks_at s made)
  pub parts_held : PartsHeld s parts
  pub close : PartsClose (tasks_at s made) (parts_at s parts)

-- the first i tasks are derived from so many of the given lists, and the later ones become the
-- tasks that are left
pub record IsSoFar (equation : StageEquation) (ts : List TaskTree) (counts : List ℕ)
    (us : List TaskTree) (handed : List (List StepTree)) (i used : ℕ)
    (lists : List (List StepTree)) : Type 0 where
  pub close : PartsClose (take i ts) lists
  pub within : used ≤ length handed
  pub left : BecomeEach equation (drop i ts) (drop i counts) (drop used us)
  pub sequents : ListsHaveSequents lists (take used handed)
