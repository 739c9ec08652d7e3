-- Open trees at environments, by their numbers in a draft.
use Rattle.std.specs.Prelude.{◌≡◌, ℕ, ◌≤◌, List, [], ◌∷◌, ◌++◌, length, All, Option, Some, None}
use Rattle.trees.specs.declared.TermId.{TermId}
use Rattle.trees.specs.Tree.{Tree, Leaf, One, Two, Three, HEnd, above_params}
use Rattle.trees.specs.Node.{tree_at, trees_at, Holds}
use Rattle.trees.specs.Sorts.{sort_of, type_of, IsExpression}
use Rattle.evidence.specs.Drafts.{DraftTree}
use Rattle.images.specs.Images.{image}
use Rattle.images.specs.Open.{IsAt}
use Rattle.walking.specs.declared.linked.Linked.{Linked}
use Rattle.congruence.specs.Alike.{Shows}

abbrev pub some_type : Option Tree → Tree
some_type (Some ty) = ty
some_type None = Leaf HEnd

-- the types of the terms of an environment, innermost first
abbrev pub types_for : List Tree → List Tree
types_for [] = []
types_for (t ∷ ts) = types_for ts ++ some_type (type_of t) ∷ []

-- An open term or formula and its instance at closed terms, by their numbers. The open tree has
-- parameters of the task alone; those of the instance are below `fresh`.
pub record IsInstanceAt (d : DraftTree) (env : List TermId) (e l : TermId)
    (fresh : ℕ) : Type 0 where
  pub env_held : All (Holds d.trees) env
  pub open_held : Holds d.trees e
  pub left_held : Holds d.trees l
  pub sort : IsExpression (sort_of (tree_at d.trees e))
  pub own : above_params (tree_at d.trees e) ≤ length d.task.params
  pub order : length d.task.params ≤ fresh
  pub at : IsAt d.task (types_for (trees_at d.trees env)) (trees_at d.trees env) (tree_at d.trees e)
      (tree_at d.trees l) fresh

-- What a link gives of an instance: an open tree, its instance there, and evidence that the two
-- instances are alike.
pub record IsLinkOf (d : DraftTree) (env : List TermId) (l : TermId) (fresh : ℕ) (e : Tree)
    (made : Linked) : Type 0 where
  pub is : tree_at d.trees made.image ≡ e
  pub place : IsInstanceAt d env made.image made.right fresh
  pub sort : sort_of (tree_at d.trees made.right) ≡ sort_of (tree_at d.trees l)
  pub type : type_of (tree_at d.trees made.right) ≡ type_of (tree_at d.trees l)
  pub shows : Shows d made.alike (tree_at d.trees l) (tree_at d.trees made.right)

-- the node over the images of its parts
abbrev pub over_images : (Tree → Tree) → Tree → Tree
over_images f (Leaf h) = Leaf h
over_images f (One h a) = One h (image f a)
over_images f (Two h a b) = Two h (image f a) (image f b)
over_images f (Three h a b c) = Three h (image f a) (image f b) (image f c)
