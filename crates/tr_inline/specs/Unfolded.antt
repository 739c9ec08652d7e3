-- A use that was unfolded, as an open tree and as its instance at an environment.
use Rattle.std.specs.Prelude.{◌≡◌, ℕ, List}
use Rattle.trees.specs.declared.TermId.{TermId}
use Rattle.trees.specs.Node.{tree_at}
use Rattle.evidence.specs.Drafts.{DraftTree}
use Rattle.congruence.specs.Alike.{ArePair}
use Rattle.walking.specs.Places.{IsInstanceAt}
use Rattle.tr_inline.specs.Definitions.{unfolding_rule}

-- of an open tree of a draft and its instance, what a later draft has for them
pub record AreUnfolded (d d1 : DraftTree) (env : List TermId) (e left : TermId) (n k : ℕ)
    (image right : TermId) : Type 0 where
  pub place : IsInstanceAt d1 env image right n
  pub image_is : tree_at d1.trees image ≡ unfolding_rule d.task k (tree_at d.trees e)
  pub right_is : tree_at d1.trees right ≡ unfolding_rule d.task k (tree_at d.trees left)
  pub pair : ArePair d1 left right
