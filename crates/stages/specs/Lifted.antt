-- The derivations that are made of refutations of the tasks that a task becomes, and of those that
-- tasks become.
use Rattle.std.specs.Prelude.{◌≡◌, ℕ, ◌<◌, List, length, All}
use Rattle.tasks.specs.trees.Tree.{Tree}
use Rattle.tasks.specs.trees.Node.{Grows}
use Rattle.tasks.specs.Task.{TaskTree}
use Rattle.kernel.specs.rules.Trees.{StepTree, step_or}
use Rattle.kernel.specs.rules.Meaning.{steps_at, StepsHeld}
use Rattle.kernel.specs.Right.{Closes}
use Rattle.evidence.specs.Stages.{PartsClose, PartsHeld, parts_at, part_or}
use Rattle.stages.specs.declared.lifting.Derived.{Derived}
use Rattle.stages.specs.declared.lifting.PartSteps.{PartSteps}

-- one of the steps has the sequent of this one
abbrev pub HasSequent : List StepTree → StepTree → Type 0
HasSequent steps st = (k : ℕ) × (k < length steps) × ((step_or steps k).sequent ≡ st.sequent)

-- for each step of each given list there is one with its sequent
abbrev pub HandedHasSequents : List StepTree → List (List StepTree) → Type 0
HandedHasSequents steps handed = All (λ part. All (HasSequent steps) part) handed

-- one of the lists has a step with the sequent of this one
abbrev pub OneHasSequent : List (List StepTree) → StepTree → Type 0
OneHasSequent lists st = (i : ℕ) × (i < length lists) × HasSequent (part_or lists i) st

abbrev pub ListsHaveSequents : List (List StepTree) → List (List StepTree) → Type 0
ListsHaveSequents lists handed = All (λ part. All (OneHasSequent lists) part) handed

-- in a store that has grown, steps derive a task, with the sequents of the given steps
pub record IsDerived (s : List Tree) (t : TaskTree) (handed : List (List StepTree))
    (d : Derived) : Type 0 where
  pub grows : Grows s d.store
  pub held : StepsHeld d.store d.steps
  pub closes : Closes t (steps_at d.store d.steps)
  pub sequents : HandedHasSequents (steps_at d.store d.steps) handed

-- and so for tasks
pub record AreDerived (s : List Tree) (ts : List TaskTree) (handed : List (List StepTree))
    (p : PartSteps) : Type 0 where
  pub grows : Grows s p.store
  pub held : PartsHeld p.store p.lists.items
  pub close : PartsClose ts (parts_at p.store p.lists.items)
  pub sequents : ListsHaveSequents (parts_at p.store p.lists.items) handed
