-- Links that are remembered by the number of an open tree and that of the list of the terms that it
-- can see.
use Rattle.std.specs.Prelude.{◌≡◌, ℕ, ◌<◌, List, length, get_or, Some}
use Rattle.indexmap.specs.IndexMap.{IndexMap, get}
use Rattle.trees.specs.declared.TermId.{TermId}
use Rattle.trees.specs.Tree.{Tree, Leaf, HEnd}
use Rattle.trees.specs.Binding.{inst_many}
use Rattle.trees.specs.Node.{tree_at, trees_at, Holds}
use Rattle.tasks.specs.Task.{TaskTree}
use Rattle.evidence.specs.Drafts.{DraftTree}
use Rattle.images.specs.Images.{image}
use Rattle.images.specs.Templates.{listed}
use Rattle.trees.specs.binders.Known.{same_pair}
use Rattle.walking.specs.declared.linked.Linked.{Linked}
use Rattle.walking.specs.Places.{IsLinkOf}

-- A link of an open tree at the terms of a list: of its instance there, to the image under a rule.
-- The instance may be another number of the same tree, at another bound on parameters.
pub record IsLinkAt (d : DraftTree) (rule : Tree → Tree) (e list : Tree)
    (made : Linked) : Type 0 where
  pub env : List TermId
  pub left : TermId
  pub fresh : ℕ
  pub terms : list ≡ listed (trees_at d.trees env) (Leaf HEnd)
  pub left_held : Holds d.trees left
  pub left_is : tree_at d.trees left ≡ inst_many e (trees_at d.trees env)
  pub link : IsLinkOf d env left fresh (image rule e) made

-- each remembered link is one
abbrev pub AreRememberedLinks : {S : Type 0} → DraftTree → (TaskTree → Tree → Tree)
    → IndexMap (ℕ × ℕ) Linked S → Type 0
AreRememberedLinks d rule m = (k l : ℕ) (v : Linked) → get same_pair m (k, l) ≡ Some v
    → (k < length d.trees) × (l < length d.trees)
    × IsLinkAt d (rule d.task) (get_or d.trees k (Leaf HEnd)) (get_or d.trees l (Leaf HEnd)) v
