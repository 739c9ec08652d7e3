-- What a binder binds, and where its variables are known to have their types.
use Rattle.std.specs.Prelude.{◌≡◌, ℕ, true, Bool, IsTrue, List, [], ◌∷◌, get_or}
use Rattle.std.specs.HashSet.{HashSet, contains}
use Rattle.tasks.specs.trees.Tree.{Tree, Leaf, HEnd}
use Rattle.tasks.specs.trees.Node.{tree_at, Holds}
use Rattle.trees.specs.binders.Known.{same_pair}
use Rattle.tasks.specs.Typing.{pattern_types}
use Rattle.tasks.specs.typed_trees.Variables.{HaveAt, CanHaveAll}
use Rattle.step_reading.specs.declared.quick_steps.variables.Binder.{Binder}
use Rattle.step_reading.specs.declared.quick_steps.variables.Binder.TheVariants.{Variable, Pattern}

-- the types of the variables that are bound, the last one first
abbrev pub types_bound : List Tree → Binder → List Tree
types_bound s (Variable ty) = tree_at s ty ∷ []
types_bound s (Pattern p) = pattern_types (tree_at s p)

abbrev pub BinderHeld : List Tree → Binder → Type 0
BinderHeld s (Variable ty) = Holds s ty
BinderHeld s (Pattern p) = Holds s p

-- the variables have their types in each tree whose number is in a set, under the number of binders
-- that is beside it
abbrev pub AreSeen : {S : Type 0} → List Tree → List Tree → HashSet (ℕ × ℕ) S → Type 0
AreSeen types s set =
    (k d : ℕ) → contains same_pair set (k, d) ≡ true → HaveAt d types (get_or s k (Leaf HEnd))

-- what is told of a tree, under so many binders as the code keeps them
pub record ToldOfTree (depth : ℕ) (types : List Tree) (e : Tree) (b : Bool) : Type 0 where
  pub is : IsTrue b → HaveAt depth types e
  pub can : CanHaveAll depth types e → IsTrue b
