-- What a rule is tried at, over a store that may grow.
use Rattle.std.specs.Prelude.{◌≡◌, ◌<◌, List, length, All}
use Rattle.tasks.specs.trees.Tree.{Tree, loose}
use Rattle.tasks.specs.trees.Node.{tree_at, Holds}
use Rattle.tasks.specs.Task.{TaskTree}
use Rattle.tasks.specs.Meaning.{trees_at, task_at}
use Rattle.tasks.specs.Looking.{LookupHeld}
use Rattle.rules.specs.Trees.{sequents}
use Rattle.rules.specs.Meaning.{steps_at, StepsHeld}
use Rattle.step_reading.specs.declared.quick_steps.place.Place.{Place}

abbrev pub task_here : List Tree → Place → TaskTree
task_here s p = task_at s p.look.now.task.now

abbrev pub sequent_here : List Tree → Place → List Tree
sequent_here s p = trees_at s p.sequent.now

abbrev pub premises_here : List Tree → Place → List (List Tree)
premises_here s p = sequents (steps_at s p.before.now) p.premises.now

-- the numbers are held, the sequent is closed, and the premises are earlier steps
pub record PlaceHeld (s : List Tree) (p : Place) : Type 0 where
  pub look : LookupHeld s p.look.now
  pub sequent : All (Holds s) p.sequent.now
  pub closed : All (λ a. loose (tree_at s a) ≡ 0) p.sequent.now
  pub before : StepsHeld s p.before.now
  pub earlier : All (λ k. k < length p.before.now) p.premises.now
