-- A task whose locals and goal are images of those of a draft's task.
use Rattle.std.specs.Prelude.{◌≡◌, All, map}
use Rattle.tasks.specs.trees.Tree.{Tree}
use Rattle.tasks.specs.trees.Node.{tree_at, Holds}
use Rattle.tasks.specs.declared.task.Task.{Task}
use Rattle.tasks.specs.Meaning.{trees_at}
use Rattle.evidence.specs.Drafts.{DraftTree}

pub record HasImages (d : DraftTree) (g : Tree → Tree) (to : Task) : Type 0 where
  pub locals_held : All (Holds d.trees) to.locals
  pub locals : trees_at d.trees to.locals ≡ map g d.task.locals
  pub goal_held : Holds d.trees to.goal
  pub goal : tree_at d.trees to.goal ≡ g d.task.goal
