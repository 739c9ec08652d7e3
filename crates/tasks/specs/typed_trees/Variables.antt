-- The types of open variables, told under so many binders as the code keeps them.
use Rattle.std.specs.Prelude.{ℕ, List}
use Rattle.trees.specs.Tree.{Tree, Leaf, One, Two, Three}
use Rattle.trees.specs.binders.Depth.{IsDepth}
use Rattle.tasks.specs.Typing.{bound_types}
use Rattle.tasks.specs.Open.{VariableHas, VariablesHave}

-- wherever so many binders, as the code keeps them, are crossed
pub record HasAt (depth : ℕ) (ty e : Tree) : Type 0 where
  pub is : (d : ℕ) → IsDepth depth d → VariableHas d ty e

-- for some number of binders that the code keeps as this one
pub record CanHave (depth : ℕ) (ty e : Tree) : Type 0 where
  pub d : ℕ
  pub is_depth : IsDepth depth d
  pub is : VariableHas d ty e

-- variables have these types wherever so many binders are crossed
pub record HaveAt (depth : ℕ) (types : List Tree) (e : Tree) : Type 0 where
  pub is : (d : ℕ) → IsDepth depth d → VariablesHave d types e

pub record CanHaveAll (depth : ℕ) (types : List Tree) (e : Tree) : Type 0 where
  pub d : ℕ
  pub is_depth : IsDepth depth d
  pub is : VariablesHave d types e

-- the variables that the operator binds have their types
abbrev pub BinderFits : Tree → Type 0
BinderFits (Two h a b) = VariablesHave 0 (bound_types h a) b
BinderFits _ = Unit {0}
