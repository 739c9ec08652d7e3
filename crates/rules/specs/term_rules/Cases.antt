-- The cases of a term of an algebraic type, as the code tells them.
use Rattle.std.specs.Prelude.{◌≡◌, List, [], ◌∷◌}
use Rattle.trees.specs.declared.TermId.{TermId}
use Rattle.trees.specs.Tree.{Tree}
use Rattle.trees.specs.Node.{tree_at, Holds}
use Rattle.tasks.specs.declared.declaration.Con.{Con}
use Rattle.tasks.specs.Task.{ConstructorTree}
use Rattle.tasks.specs.Meaning.{con_at}
use Rattle.tasks.specs.MatchTests.{rebuilt}
use Rattle.rules.specs.declared.tried.Tried.{Tried}
use Rattle.rules.specs.Forms.{equal}
use Rattle.rules.specs.Meaning.{TriedHeld, task_of}
use Rattle.rules.specs.declared.term_rules.cases.Rebuilt.{Rebuilt}

pub record IsRebuiltHeld (v : Rebuilt) (s : List Tree) : Type 0 where
  pub tried : TriedHeld v.x.now
  pub store : v.x.now.store.now ≡ s
  pub types : Holds s v.types
  pub term : Holds s v.term

-- that a term is a constructor on its own fields
abbrev pub case_by : Tried → TermId → TermId → ConstructorTree → List Tree
case_by x types term c = equal (tree_at x.store.now term)
    (rebuilt (task_of x) c.symbol c.projections (tree_at x.store.now types)
    (tree_at x.store.now term)) ∷ []

abbrev pub case_of : Tried → TermId → TermId → Con → List Tree
case_of x types term c = case_by x types term (con_at x.store.now c)

abbrev pub no_con : Con
no_con = record { symbol = 0; fields = []; projections = [] }
