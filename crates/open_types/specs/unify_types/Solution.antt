-- What is promised of a list of type equations: a most general solution and its values, or the
-- least prefix without one.
use Rattle.std.specs.Prelude.{◌≡◌, ℕ, ◌+◌, ◌<◌, ◌≤◌, List, take, length, get_or, Option, Some, None}
use Rattle.trees.specs.declared.TermId.{TermId}
use Rattle.trees.specs.Tree.{Tree}
use Rattle.trees.specs.Node.{tree_at, Holds, Grows}
use Rattle.open_types.specs.declared.unify_types.bindings.Bound.{Bound}
use Rattle.open_types.specs.declared.unify_types.Equation.{Equation}
use Rattle.open_types.specs.declared.unify_types.UnifyFault.{UnifyFault}
use Rattle.open_types.specs.declared.unify_types.UnifyFault.TheVariants.{Memory, Clash}
use Rattle.open_types.specs.unify_types.Assigned.{assign, IsType, Solves}
use Rattle.open_types.specs.unify_types.Bound.{IsTriangular, Agrees, bound_over, BindingsHeld}

-- both sides are types that the store holds
pub record IsEquation (s : List Tree) (e : Equation) : Type 0 where
  pub left_held : Holds s e.left
  pub right_held : Holds s e.right
  pub left_type : IsType (tree_at s e.left)
  pub right_type : IsType (tree_at s e.right)

abbrev pub AreEquations : List Tree → List Equation → Type 0
AreEquations s es = (k : ℕ) (d : Equation) → k < length es → IsEquation s (get_or es k d)

-- some assignment of types solves the equations
pub record HasSolution (rigid : ℕ) (s : List Tree) (es : List Equation) : Type 0 where
  pub assigned : ℕ → Tree
  pub types : (j : ℕ) → IsType (assigned j)
  pub solves : Solves rigid assigned s es

-- no assignment solves the equations
abbrev pub HasNoSolution : ℕ → List Tree → List Equation → Type 0
HasNoSolution rigid s es = (f : ℕ → Tree) → Solves rigid f s es → ⊥

-- a solution by types, of which every solution is an instance
pub record HasMostGeneral (rigid : ℕ) (s : List Tree) (es : List Equation) : Type 0 where
  pub assigned : ℕ → Tree
  pub types : (j : ℕ) → IsType (assigned j)
  pub solves : Solves rigid assigned s es
  pub general : (f : ℕ → Tree) → Solves rigid f s es → (j : ℕ) → rigid ≤ j
      → assign rigid f (assigned j) ≡ f j

-- two solutions by types differ at the unknown
pub record IsOpenUnknown (rigid : ℕ) (s : List Tree) (es : List Equation) (u : ℕ) : Type 0 where
  pub first : ℕ → Tree
  pub second : ℕ → Tree
  pub first_types : (j : ℕ) → IsType (first j)
  pub second_types : (j : ℕ) → IsType (second j)
  pub first_solves : Solves rigid first s es
  pub second_solves : Solves rigid second s es
  pub differ : first u ≡ second u → ⊥

-- the type of the unknown in every solution, as a number of the grown store, or none where two
-- solutions differ
abbrev pub IsValue : ℕ → List Tree → List Equation → List Tree → ℕ → Option TermId → Type 0
IsValue rigid s es new u None = IsOpenUnknown rigid s es u
IsValue rigid s es new u (Some id) =
    Holds new id × ((f : ℕ → Tree) → Solves rigid f s es → f u ≡ tree_at new id)

-- equations 0 to k have no solution, and those before k have one
abbrev pub IsLeastClash : ℕ → List Tree → List Equation → UnifyFault → Type 0
IsLeastClash rigid s es Memory = Unit {0}
IsLeastClash rigid s es (Clash k) =
    (k < length es) × HasNoSolution rigid s (take (k + 1) es) × HasSolution rigid s (take k es)

-- what agrees with the bindings is what solves the first k equations
pub record SolvesFirst (rigid : ℕ) (old : List Tree) (es : List Equation) (k : ℕ) (s : List Tree)
    (bs : List Bound) : Type 0 where
  pub grows : Grows old s
  pub bound : BindingsHeld s bs
  pub triangular : IsTriangular rigid (bound_over s bs)
  pub forth : (f : ℕ → Tree) → Solves rigid f old (take k es) → Agrees rigid f (bound_over s bs)
  pub back : (f : ℕ → Tree) → Agrees rigid f (bound_over s bs) → Solves rigid f old (take k es)
