-- Lists of arguments at environments, by their numbers in a draft, and their links.
use Rattle.std.specs.Prelude.{◌≡◌, ℕ, ◌≤◌, List, length, All}
use Rattle.trees.specs.declared.TermId.{TermId}
use Rattle.trees.specs.declared.Sort.TheVariants.{Term}
use Rattle.trees.specs.Tree.{Tree, above_params}
use Rattle.trees.specs.Node.{tree_at, trees_at, Holds}
use Rattle.trees.specs.Sorts.{IsList}
use Rattle.evidence.specs.Drafts.{DraftTree}
use Rattle.images.specs.Open.{IsAt}
use Rattle.images.specs.Templates.{listed}
use Rattle.congruence.specs.Alike.{ArePair, Shows}
use Rattle.congruence.specs.declared.applications.SymbolAt.{SymbolAt}
use Rattle.walking.specs.declared.linked.LinkedArguments.{LinkedArguments}
use Rattle.congruence.specs.Applications.{applied}
use Rattle.walking.specs.Places.{types_for}

-- An open list of terms and its instance at closed terms, by their numbers. The open list has
-- parameters of the task alone; those of the instance are below `fresh`.
pub record AreInstancesAt (d : DraftTree) (env : List TermId) (e l : TermId)
    (fresh : ℕ) : Type 0 where
  pub env_held : All (Holds d.trees) env
  pub open_held : Holds d.trees e
  pub left_held : Holds d.trees l
  pub terms : IsList Term (tree_at d.trees e)
  pub own : above_params (tree_at d.trees e) ≤ length d.task.params
  pub order : length d.task.params ≤ fresh
  pub at : IsAt d.task (types_for (trees_at d.trees env)) (trees_at d.trees env) (tree_at d.trees e)
      (tree_at d.trees l) fresh

-- What links of the last arguments of an application give: the open list, its instance, the
-- application with that in the place of its last arguments, and evidence that the two applications
-- are alike.
pub record AreLinksOf (d : DraftTree) (env : List TermId) (symbol : SymbolAt) (before : List TermId)
    (left : TermId) (fresh : ℕ) (e : Tree) (made : LinkedArguments) : Type 0 where
  pub is : tree_at d.trees made.image ≡ e
  pub places : AreInstancesAt d env made.image made.list fresh
  pub pair : ArePair d left made.right
  pub right : tree_at d.trees made.right
      ≡ applied d.trees symbol (listed (trees_at d.trees before) (tree_at d.trees made.list))
  pub shows : Shows d made.alike (tree_at d.trees left) (tree_at d.trees made.right)
