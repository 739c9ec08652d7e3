-- The types that are at the type variables of a tree, found along another one.
use Rattle.std.specs.Prelude.{ℕ, zero, suc, Bool, true, false, if◌then◌else◌, List, [], ◌∷◌, set}
use Rattle.tasks.specs.trees.declared.Sort.{Sort}
use Rattle.tasks.specs.trees.declared.Sort.TheVariants.{Kind}
use Rattle.tasks.specs.trees.Tree.{Tree, Leaf, One, Two, Three, Head, HTyVar}
use Rattle.tasks.specs.trees.Sorts.{sort_of, int_type}

abbrev pub is_type_sort : Sort → Bool
is_type_sort Kind = true
is_type_sort _ = false

-- a type in the place of this number, where there is one
abbrev pub type_noted : ℕ → Tree → List Tree → List Tree
type_noted j e tys = if is_type_sort (sort_of e) then set tys j e else tys

abbrev pub leaf_found : Head → Tree → List Tree → List Tree
leaf_found (HTyVar j) e tys = type_noted j e tys
leaf_found _ e tys = tys

abbrev pub tree_noted : Tree → Tree → List Tree → List Tree
tree_noted (Leaf h) e tys = leaf_found h e tys
tree_noted _ e tys = tys

abbrev pub types_found : Tree → Tree → List Tree → List Tree
types_found (Leaf h) e tys = leaf_found h e tys
types_found (One h a) (One g x) tys = types_found a x tys
types_found (Two h a b) (Two g x y) tys = types_found b y (types_found a x tys)
types_found (Three h a b c) (Three g x y z) tys =
    types_found c z (types_found b y (types_found a x tys))
types_found _ _ tys = tys

abbrev pub ints : ℕ → List Tree
ints zero = []
ints (suc n) = int_type ∷ ints n
