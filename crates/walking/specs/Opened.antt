-- The first branch of a `match` at an environment, by its numbers in a draft.
use Rattle.std.specs.Prelude.{◌≡◌, ℕ, ◌++◌, List, All}
use Rattle.trees.specs.declared.TermId.{TermId}
use Rattle.trees.specs.Tree.{Two, HCase, HCell, HArm}
use Rattle.trees.specs.Node.{tree_at, trees_at, Holds}
use Rattle.trees.specs.Binding.{inst_many}
use Rattle.tasks.specs.MatchTests.{bind}
use Rattle.tasks.specs.MatchTests.{test as match_test}
use Rattle.evidence.specs.Drafts.{DraftTree, IsFormulaAt}
use Rattle.congruence.specs.Alike.{IsClosedAt, ArePair}
use Rattle.walking.specs.declared.matching.OpenedBranch.{OpenedBranch}
use Rattle.walking.specs.Places.{IsInstanceAt}

-- What opening the first branch of a `match` gives: the scrutinee and the parts of the branch, the
-- pattern's test, the terms for its variables, and the body at these, which is the open body at the
-- environment that has them.
pub record IsOpenedBranch (d : DraftTree) (env : List TermId) (left pattern body : TermId)
    (fresh : ℕ) (o : OpenedBranch) : Type 0 where
  pub left_is : tree_at d.trees left
      ≡ Two HCase (tree_at d.trees o.by)
      (Two HCell (Two HArm (tree_at d.trees pattern) (tree_at d.trees o.under))
      (tree_at d.trees o.others))
  pub by : IsClosedAt d o.by
  pub under_held : Holds d.trees o.under
  pub others_held : Holds d.trees o.others
  pub test : IsFormulaAt d o.test
  pub test_is : tree_at d.trees o.test
      ≡ match_test d.task (tree_at d.trees pattern) (tree_at d.trees o.by)
  pub terms_held : All (Holds d.trees) o.terms.items
  pub terms : trees_at d.trees o.terms.items
      ≡ bind d.task (tree_at d.trees pattern) (tree_at d.trees o.by)
  pub inner_is : tree_at d.trees o.inner
      ≡ inst_many (tree_at d.trees o.under) (trees_at d.trees o.terms.items)
  pub pair : ArePair d left o.inner
  pub place : IsInstanceAt d (env ++ o.terms.items) body o.inner fresh
