-- Where the first conditional of a tree is, by numbers in a store.
use Rattle.std.specs.Prelude.{◌≡◌, ◌<◌, List}
use Rattle.trees.specs.declared.TermId.{TermId}
use Rattle.trees.specs.Tree.{Tree, Two, Three, HCell, HFun, HPred, HEq}
use Rattle.trees.specs.Node.{tree_at, Holds}
use Rattle.trees.specs.Sorts.{Fits, sort_of, first_sort}
use Rattle.tr_if.specs.conditionals.Conditionals.{first_if, one_changed, replace_first}
use Rattle.tr_if.specs.declared.conditionals.firsts.FirstPlace.{FirstPlace}
use Rattle.tr_if.specs.declared.conditionals.firsts.FirstPlace.TheVariants.{Here, Below, Nowhere}

-- the node with another child in the place of the one that has the first conditional
abbrev pub with_first : Tree → Tree → Tree
with_first (Three (HFun f) types args ty) m = Three (HFun f) types m ty
with_first (Two (HPred p) types args) m = Two (HPred p) types m
with_first (Two HEq a b) m = one_changed (first_if a) HEq a b m m
with_first (Two HCell a b) m = one_changed (first_if a) HCell a b m m
with_first e m = e

-- the child of a tree that has its first conditional, if it has one
pub record HasFirstBelow (s : List Tree) (e child : TermId) : Type 0 where
  pub held : Holds s child
  pub below : child.0 < e.0
  pub first : first_if (tree_at s e) ≡ first_if (tree_at s child)
  pub placed : (x : Tree) → replace_first (tree_at s e) x
      ≡ with_first (tree_at s e) (replace_first (tree_at s child) x)
  pub fits : (m : Tree) → sort_of m ≡ sort_of (tree_at s child)
      → first_sort m ≡ first_sort (tree_at s child) → Fits (with_first (tree_at s e) m)

abbrev pub IsFirstPlace : List Tree → TermId → FirstPlace → Type 0
IsFirstPlace s e Here = (x : Tree) → replace_first (tree_at s e) x ≡ x
IsFirstPlace s e (Below child) = HasFirstBelow s e child
IsFirstPlace s e Nowhere = (x : Tree) → replace_first (tree_at s e) x ≡ tree_at s e
