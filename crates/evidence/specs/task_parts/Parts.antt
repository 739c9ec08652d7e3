-- A task with other parts.
use Rattle.std.specs.Prelude.{◌≡◌, List, All}
use Rattle.tasks.specs.trees.declared.TermId.{TermId}
use Rattle.tasks.specs.trees.Tree.{Tree}
use Rattle.tasks.specs.trees.Node.{tree_at, Holds}
use Rattle.tasks.specs.declared.declaration.Decl.{Decl}
use Rattle.tasks.specs.declared.task.Task.{Task}
use Rattle.tasks.specs.Task.{TaskTree, DeclarationTree}
use Rattle.tasks.specs.Meaning.{trees_at, declarations_at, task_at, DeclHeld, TaskHeld}

abbrev pub task_with : TaskTree → List DeclarationTree → List Tree → List Tree → Tree → TaskTree
task_with t decls params locals goal =
    record t { decls = decls; params = params; locals = locals; goal = goal }

-- the numbers of the parts are held
pub record ArePartsHeld (s : List Tree) (ds : List Decl) (ps ls : List TermId)
    (g : TermId) : Type 0 where
  pub decls : All (DeclHeld s) ds
  pub params : All (Holds s) ps
  pub locals : All (Holds s) ls
  pub goal : Holds s g

-- in any store the copy stands for the task with these parts, and its numbers are held if those are
pub record IsWithParts (task : Task) (decls : List Decl) (params locals : List TermId)
    (goal : TermId) (copy : Task) : Type 0 where
  pub tree : (s : List Tree) → task_at s copy
      ≡ task_with (task_at s task) (declarations_at s decls) (trees_at s params) (trees_at s locals)
      (tree_at s goal)
  pub held : (s : List Tree) → TaskHeld s task → ArePartsHeld s decls params locals goal
      → TaskHeld s copy
  pub goal_is : copy.goal ≡ goal
