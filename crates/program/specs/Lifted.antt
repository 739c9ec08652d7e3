-- What is lifted: refutations of a task's parts, and the derivation that is written for them.
use Rattle.std.specs.Prelude.{ℕ, List, None, map}
use Rattle.tasks.specs.trees.Tree.{Tree}
use Rattle.tasks.specs.Task.{TaskTree}
use Rattle.rules.specs.Trees.{StepTree}
use Rattle.step_writing.specs.name_tables.Tables.{task_names}
use Rattle.step_writing.specs.step_reading.Lines.{StepsOf}
use Rattle.tasks.specs.Meaning.{tasks_at}
use Rattle.stages.specs.evidence.Stages.{PartsClose, PartsHeld, parts_at}
use Rattle.stages.specs.transformations.Transformations.{equation_of}
use Rattle.stages.specs.Levels.{IsCarried}
use Rattle.stages.specs.Lifted.{HandedHasSequents}
use Rattle.program.specs.declared.parts.StagedTask.{StagedTask}
use Rattle.program.specs.declared.derivation.RefutedTask.{RefutedTask}

-- The text is a file of steps that derive the task, and each given step has its sequent among
-- theirs.
pub record IsLifted (t : TaskTree) (handed : List (List StepTree)) (text : List ℕ) : Type 0 where
  pub steps : List StepTree
  pub derives : StepsOf t (task_names t) None text steps
  pub sequents : HandedHasSequents steps handed

-- the stages of a driver, with the task carried through them
abbrev pub IsStaged : List Tree → TaskTree → StagedTask → Type 0
IsStaged s t p =
    IsCarried (map equation_of p.stages.items) s t p.carried.levels.items p.carried.tasks.items

-- a task carried through stages, with refutations of its parts
pub record IsRefutedTask (s : List Tree) (t : TaskTree) (r : RefutedTask) : Type 0 where
  pub staged : IsStaged s t r.staged
  pub held : PartsHeld s r.handed.items
  pub close : PartsClose (tasks_at s r.staged.carried.tasks.items) (parts_at s r.handed.items)
