-- What a further equation makes of bindings, and what it becomes on the way.
use Rattle.std.specs.Prelude.{◌≡◌, ℕ, ◌<◌, ◌≤◌, ◌↔◌, false, List, length, get_or, Some, None, nat_eq}
use Rattle.std.specs.HashMap.{HashMap, get}
use Rattle.trees.specs.declared.TermId.{TermId}
use Rattle.trees.specs.Tree.{Tree, Leaf, One, Two, HTyApp, HEnd, HCell}
use Rattle.trees.specs.Node.{tree_at, Holds, Grows}
use Rattle.open_types.specs.declared.unify_types.bindings.Bound.{Bound}
use Rattle.open_types.specs.declared.unify_types.Equation.{Equation}
use Rattle.open_types.specs.unify_types.Assigned.{Variable, assign, IsTypeOrTypes, IsType, MeetsEquation}
use Rattle.open_types.specs.unify_types.Bound.{Binding, IsTriangular, Agrees, type_bound, bound_over, BindingsHeld}
use Rattle.open_types.specs.unify_types.Solution.{IsEquation}

-- the tree is no unknown
abbrev pub NoUnknown : ℕ → Tree → Type 0
NoUnknown rigid t = (u : ℕ) → rigid ≤ u → t ≡ Variable u → ⊥

-- the tree is no type symbol on arguments
abbrev pub IsNoApplication : Tree → Type 0
IsNoApplication t = (k : ℕ) (a : Tree) → t ≡ One (HTyApp k) a → ⊥

-- the tree is no list with members
abbrev pub IsNoCell : Tree → Type 0
IsNoCell t = (a b : Tree) → t ≡ Two HCell a b → ⊥

-- the tree is no unknown that is bound
abbrev pub IsUnbound : List Bound → Tree → Type 0
IsUnbound bs t = (u : ℕ) → t ≡ Variable u → type_bound u bs ≡ None

-- both sides are lists of types that the store holds
pub record IsListEquation (s : List Tree) (e : Equation) : Type 0 where
  pub left_held : Holds s e.left
  pub right_held : Holds s e.right
  pub left_list : IsTypeOrTypes false (tree_at s e.left)
  pub right_list : IsTypeOrTypes false (tree_at s e.right)

-- no assignment meets the equation
abbrev pub IsNeverMet : ℕ → List Tree → Equation → Type 0
IsNeverMet rigid s e = (f : ℕ → Tree) → MeetsEquation rigid f s e → ⊥

-- the assignments that meet one equation are those that meet the other
abbrev pub MeansSame : ℕ → List Tree → Equation → Equation → Type 0
MeansSame rigid s e e' = (f : ℕ → Tree) → MeetsEquation rigid f s e ↔ MeetsEquation rigid f s e'

-- an equation of lists is one of their first members and one of the rest
pub record IsDecomposed (rigid : ℕ) (s : List Tree) (e first rest : Equation) : Type 0 where
  pub first_types : IsEquation s first
  pub rest_lists : IsListEquation s rest
  pub both : (f : ℕ → Tree) → MeetsEquation rigid f s e
      ↔ (MeetsEquation rigid f s first × MeetsEquation rigid f s rest)

-- a type that a tree is the same as wherever an assignment agrees with the bindings
pub record StandsFor (rigid : ℕ) (bs : List Binding) (s : List Tree) (t : Tree)
    (id : TermId) : Type 0 where
  pub held : Holds s id
  pub typed : IsType (tree_at s id)
  pub same : (f : ℕ → Tree) → Agrees rigid f bs → assign rigid f t ≡ assign rigid f (tree_at s id)

-- each number in the map has a type that stands for its tree
abbrev pub AreMerged : {S : Type 0} → ℕ → List Binding → List Tree → HashMap ℕ TermId S → Type 0
AreMerged rigid bs s m = (k : ℕ) (v : TermId) → get nat_eq m k ≡ Some v
    → (k < length s) × StandsFor rigid bs s (get_or s k (Leaf HEnd)) v

-- the bindings on the way to a solution of the equation
pub record Narrows (rigid : ℕ) (s : List Tree) (bs : List Bound) (e : Equation) (s' : List Tree)
    (bs' : List Bound) : Type 0 where
  pub grows : Grows s s'
  pub bound : BindingsHeld s' bs'
  pub triangular : IsTriangular rigid (bound_over s' bs')
  pub forth : (f : ℕ → Tree) → Agrees rigid f (bound_over s bs) → MeetsEquation rigid f s e
      → Agrees rigid f (bound_over s' bs')
  pub back : (f : ℕ → Tree) → Agrees rigid f (bound_over s' bs') → Agrees rigid f (bound_over s bs)

-- the bindings after the equation: what agrees with them is what agreed before and solves it
pub record Unifies (rigid : ℕ) (s : List Tree) (bs : List Bound) (e : Equation) (s' : List Tree)
    (bs' : List Bound) : Type 0 where
  pub narrows : Narrows rigid s bs e s' bs'
  pub solved : (f : ℕ → Tree) → Agrees rigid f (bound_over s' bs') → MeetsEquation rigid f s e

-- no solution agrees with the bindings
abbrev pub Fails : ℕ → List Tree → List Bound → Equation → Type 0
Fails rigid s bs e =
    (f : ℕ → Tree) → Agrees rigid f (bound_over s bs) → MeetsEquation rigid f s e → ⊥
