-- A goal's task by its names, as a step of the order.
use Rattle.std.proofs.Common.{◌≡◌, ℕ, List, Option, Some, None, Ok, Err, Result, ap, refl}
use Rattle.std.specs.Prelude.{IsSomeAnd, IsNone}
use Rattle.tasks.specs.declared.task.Task.{Task}
use Rattle.tasks.specs.Task.{TaskTree}
use Rattle.theories.specs.theory_states.declared.goal_tasks.making.TaskFault.{TaskFault}
use Rattle.theories.specs.theory_states.goal_tasks.Theories.{GoalTree, KnownTheoryTree, TheoriesTree, theory_named, goal_named}
use Rattle.theories.specs.theory_states.goal_tasks.Tasks.{task_for, IsTaskOf}
use Rattle.statuses.specs.declared.fault_order.faults.Fault.TheVariants.{NoTheory, NoGoal}
use Rattle.statuses.specs.fault_order.Order.{RunStop, refused, StageMeaning}
use Rattle.program.specs.source_goals.Order.{TaskOf, goal_task, theory_task}

-- what is left after the source
abbrev pub naming : (theory goal : List ℕ) → TheoriesTree → StageMeaning TaskTree
naming theory goal all files limit = TaskOf theory goal all

abbrev made : TaskTree → Result TaskTree RunStop
made k = Ok k

module _ (all : TheoriesTree) (goal : List ℕ) where
  goal_ok : (t : KnownTheoryTree) (o : Option GoalTree) (k : TaskTree) → IsSomeAnd o (λ g. k ≡ task_for all t g) → made k ≡ goal_task all t o
  goal_ok t None k h = absurd h
  goal_ok t (Some g) k h = ap made h

  theory_ok : (o : Option KnownTheoryTree) (k : TaskTree) → IsSomeAnd o (λ t. IsSomeAnd (goal_named t goal) (λ g. k ≡ task_for all t g)) → made k ≡ theory_task all goal o
  theory_ok None k h = absurd h
  theory_ok (Some t) k h = goal_ok t (goal_named t goal) k h

  no_goal_in : (t : KnownTheoryTree) (o : Option GoalTree) → IsNone o → Err (refused NoGoal) ≡ goal_task all t o
  no_goal_in t None h = refl
  no_goal_in t (Some g) h = absurd (cc)

  no_goal_by : (o : Option KnownTheoryTree) → IsSomeAnd o (λ t. IsNone (goal_named t goal)) → Err (refused NoGoal) ≡ theory_task all goal o
  no_goal_by None h = absurd h
  no_goal_by (Some t) h = no_goal_in t (goal_named t goal) h

  no_theory_by : (o : Option KnownTheoryTree) → IsNone o → Err (refused NoTheory) ≡ theory_task all goal o
  no_theory_by None h = refl
  no_theory_by (Some t) h = absurd (cc)

pub named-ok : (all : TheoriesTree) (theory goal : List ℕ) (k : TaskTree) → IsTaskOf all theory goal k → TaskOf theory goal all (Ok k)
named-ok all theory goal k h = theory_ok all goal (theory_named all theory) k h

pub named-no_goal : (all : TheoriesTree) (theory goal : List ℕ) → IsSomeAnd (theory_named all theory) (λ t. IsNone (goal_named t goal)) → TaskOf theory goal all (Err (refused NoGoal))
named-no_goal all theory goal h = no_goal_by all goal (theory_named all theory) h

pub named-no_theory : (all : TheoriesTree) (theory goal : List ℕ) → IsNone (theory_named all theory) → TaskOf theory goal all (Err (refused NoTheory))
named-no_theory all theory goal h = no_theory_by all goal (theory_named all theory) h

-- a refusal, by its fault
abbrev failing : TaskFault → Result Task TaskFault
failing fault = Err fault

pub same_fault : (fault its : TaskFault) → fault ≡ its → failing fault ≡ failing its
same_fault fault its is = ap failing is
