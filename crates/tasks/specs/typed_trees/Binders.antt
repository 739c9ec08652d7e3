-- The binders around a tree, as the code that goes down keeps them.
use Rattle.std.specs.Prelude.{◌≡◌, ℕ, ◌+◌, List, [], ◌++◌, length, slice_get, Some}
use Rattle.trees.specs.Tree.{Tree, Head, HForall, HLet, HArm}
use Rattle.trees.specs.Node.{tree_at, Holds}
use Rattle.tasks.specs.declared.typed_trees.enclosing.Binder.{Binder}
use Rattle.tasks.specs.declared.typed_trees.enclosing.Binder.TheVariants.{Quantifier, Let, Arm}
use Rattle.tasks.specs.declared.typed_trees.enclosing.Binders.{Binders, Outside, Inside'}
use Rattle.tasks.specs.declared.typed_trees.enclosing.Place.{Place}
use Rattle.tasks.specs.declared.typed_trees.enclosing.Place.TheVariants.{Found, Past}
use Rattle.tasks.specs.Typing.{bound_types}

abbrev pub binder_head : Binder → Head
binder_head Quantifier = HForall
binder_head Let = HLet
binder_head Arm = HArm

-- the types of the variables, innermost first
abbrev pub binders_at : List Tree → Binders → List Tree
binders_at s Outside = []
binders_at s (Inside' binder first p outer) =
    bound_types (binder_head binder) (tree_at s first) ++ binders_at s outer

abbrev pub BindersHeld : List Tree → Binders → Type 0
BindersHeld s Outside = Unit {0}
BindersHeld s (Inside' binder first p outer) = Holds s first × BindersHeld s outer

-- what is at a place of a list of types, or how far the place is past its end
abbrev pub IsPlace : List Tree → List Tree → ℕ → Place → Type 0
IsPlace s types place (Found t) = (slice_get types place ≡ Some (tree_at s t)) × Holds s t
IsPlace s types place (Past left) = length types + left ≡ place
