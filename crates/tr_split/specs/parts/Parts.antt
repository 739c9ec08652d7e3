-- A list of formulas that gains others, while its store grows.
use Rattle.std.specs.Prelude.{◌≡◌, ◌<◌, List, ◌++◌, All}
use Rattle.trees.specs.declared.Op.{Op}
use Rattle.trees.specs.declared.TermId.{TermId}
use Rattle.trees.specs.declared.Sort.TheVariants.{Formula}
use Rattle.trees.specs.Tree.{Tree, Two, Head, HJoin}
use Rattle.trees.specs.declared.Node.{Node}
use Rattle.trees.specs.declared.Parts.TheVariants as parts
use Rattle.trees.specs.Node.{tree_at, parts_of, Holds, IsLike}
use Rattle.trees.specs.Sorts.{sort_of, Fits}
use Rattle.tasks.specs.Meaning.{trees_at}

abbrev pub IsSentence : Tree → Type 0
IsSentence e = sort_of e ≡ Formula

-- over the old trees it is `before`, over the new ones `after`, which has these formulas more
pub record GainsFormulas (old new : List Tree) (before after : List TermId)
    (more : List Tree) : Type 0 where
  pub trees : trees_at new after ≡ trees_at old before ++ more
  pub held : All (Holds new) after
  pub sentences : All IsSentence more

-- the operator makes a formula of its first child and any formula
pub record Wraps (h : Head) (first : Tree) : Type 0 where
  pub fits : (e : Tree) → IsSentence e → Fits (Two h first e)
  pub sentence : (e : Tree) → IsSentence e → IsSentence (Two h first e)

abbrev pub HasTwo : Node → Type 0
HasTwo node = (a b : TermId) → IsLike (parts_of node) (parts.Two a b)

-- what is known of a number whose node joins two formulas
pub record Joins (s : List Tree) (id : TermId) (op : Op) (a b : TermId) : Type 0 where
  pub tree : tree_at s id ≡ Two (HJoin op) (tree_at s a) (tree_at s b)
  pub left : IsSentence (tree_at s a)
  pub right : IsSentence (tree_at s b)
  pub below : (a.0 < id.0) × (b.0 < id.0)
