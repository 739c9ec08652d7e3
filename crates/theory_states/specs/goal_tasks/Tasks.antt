-- The task of a goal: the declarations before it, after those of the tuples that occur (Why3
-- manual, "tasks").
use Rattle.std.specs.Prelude.{◌≡◌, ℕ, List, [], ◌++◌, take, IsSomeAnd}
use Rattle.tasks.specs.Task.{DeclarationTree, TaskTree}
use Rattle.theory_states.specs.goal_tasks.Named.{named, declarations_named}
use Rattle.theory_states.specs.goal_tasks.Tuples.{tuples_in}
use Rattle.theory_states.specs.goal_tasks.Theories.{GoalTree, KnownTheoryTree, TheoriesTree, theory_named, goal_named}

abbrev pub declarations_before : KnownTheoryTree → GoalTree → List DeclarationTree
declarations_before t g = take g.before t.decls

-- the symbols that are in a goal and the declarations before it
abbrev pub task_named : TheoriesTree → KnownTheoryTree → GoalTree → List ℕ
task_named all t g = declarations_named all.symbols (declarations_before t g) ++ named g.prop

-- without parameters and locals
abbrev pub task_for : TheoriesTree → KnownTheoryTree → GoalTree → TaskTree
task_for all t g = record {
  symbols = all.symbols;
  ints = all.ints;
  rigid = g.rigid;
  decls = tuples_in all.symbols (task_named all t g) ++ declarations_before t g;
  params = [];
  locals = [];
  goal = g.prop;
}

-- the task of the goal with this name in the theory with this path
abbrev pub IsTaskOf : TheoriesTree → List ℕ → List ℕ → TaskTree → Type 0
IsTaskOf all theory goal task =
    IsSomeAnd (theory_named all theory)
    (λ t. IsSomeAnd (goal_named t goal) (λ g. task ≡ task_for all t g))
