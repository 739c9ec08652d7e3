-- A `match` and its `if` form, as two trees.
use Rattle.std.specs.Prelude.{◌≡◌}
use Rattle.tasks.specs.trees.Tree.{Tree, Two, Three, HCell, HCase, HIf}
use Rattle.tasks.specs.Task.{TaskTree}
use Rattle.tr_match.specs.match_forms.Forms.{if_form}

pub record IsIfForm (t : TaskTree) (e f : Tree) : Type 0 where
  pub scrutinee : Tree
  pub branches : Tree
  pub is : e ≡ Two HCase scrutinee branches
  pub form : f ≡ if_form t scrutinee branches

-- a `match` has a list of branches after the first
pub record HasOthers (e : Tree) : Type 0 where
  pub scrutinee : Tree
  pub first : Tree
  pub others : Tree
  pub is : e ≡ Two HCase scrutinee (Two HCell first others)

-- an `if`
pub record HasIf (e : Tree) : Type 0 where
  pub condition : Tree
  pub then_part : Tree
  pub else_part : Tree
  pub is : e ≡ Three HIf condition then_part else_part
