-- Algebraic types in code: each field is a type of the store, and has the type variables of its own
-- type alone.
use Rattle.std.specs.Prelude.{ℕ, List, [], ◌∷◌, All, length}
use Rattle.trees.specs.Tree.{Tree}
use Rattle.trees.specs.Facts.{TyVarsBelow}
use Rattle.tasks.specs.Task.{ConstructorTree, AlgebraicTree}
use Rattle.tasks.specs.declared.declaration.Con.{Con}
use Rattle.tasks.specs.declared.declaration.Alg.{Alg}
use Rattle.open_types.specs.Drafts.{HoldsType}
use Rattle.scopes.specs.Names.{ScopeNames}
use Rattle.elab_groups.specs.parts.Declarations.{AlgebraicType}
use Rattle.elab_groups.specs.parts.Entries.{AreScopes}

pub record ConTyped (s : List Tree) (c : Con) : Type 0 where
  pub fields : All (HoldsType s) c.fields

pub record AlgTyped (s : List Tree) (a : Alg) : Type 0 where
  pub cons : All (ConTyped s) a.cons

-- constructors of a type with so many type variables
abbrev pub AreConsWithin : ℕ → List ConstructorTree → Type 0
AreConsWithin n [] = Unit {0}
AreConsWithin n (c ∷ cs) = All (TyVarsBelow n) c.fields × AreConsWithin n cs

abbrev pub AreWithin : List AlgebraicType → List AlgebraicTree → Type 0
AreWithin [] ys = Unit {0}
AreWithin (a ∷ ts) [] = Unit {0}
AreWithin (a ∷ ts) (y ∷ ys) = AreConsWithin (length a.vars) y.cons × AreWithin ts ys

-- each name of a type and of a symbol stands for an entry below some number, or for a type
abbrev pub HaveThings : List Tree → ScopeNames → Type 0
HaveThings s names = (n : ℕ) × AreScopes s n names
