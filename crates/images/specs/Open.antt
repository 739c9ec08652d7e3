-- Open trees at environments: a list of closed terms for the open variables, the last one for the
-- innermost.
use Rattle.std.specs.Prelude.{◌≡◌, ℕ, ◌≤◌, List, All}
use Rattle.trees.specs.Tree.{Tree, above_params}
use Rattle.trees.specs.Binding.{inst_many}
use Rattle.tasks.specs.Task.{TaskTree}
use Rattle.tasks.specs.Vocabulary.{of_task}
use Rattle.tasks.specs.Typing.{TypedUnder}
use Rattle.tasks.specs.Valid.{IsGround}
use Rattle.tasks.specs.typed_trees.instances.Instances.{AreFor}

-- closed terms for open variables of these types, free of type variables, with parameters below
-- this number
pub record IsEnvironment (t : TaskTree) (types env : List Tree) (fresh : ℕ) : Type 0 where
  pub terms : AreFor (of_task t) types env
  pub ground : All IsGround env
  pub above : All (λ a. above_params a ≤ fresh) env

-- a tree typed under binders of these types, free of type variables, with parameters below this
-- number
pub record IsOpenUnder (t : TaskTree) (types : List Tree) (e : Tree) (fresh : ℕ) : Type 0 where
  pub typed : TypedUnder (of_task t) types e
  pub ground : IsGround e
  pub above : above_params e ≤ fresh

-- a tree is an open one at an environment
pub record IsAt (t : TaskTree) (types env : List Tree) (e l : Tree) (fresh : ℕ) : Type 0 where
  pub around : IsEnvironment t types env fresh
  pub shape : IsOpenUnder t types e fresh
  pub is : l ≡ inst_many e env
