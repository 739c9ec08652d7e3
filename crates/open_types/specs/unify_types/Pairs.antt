-- Type equations as pairs of trees, and what is promised of them (first-order unification). A type
-- is a well-sorted tree of the sort of types.
use Rattle.std.specs.Prelude.{◌≡◌, ℕ, ◌+◌, ◌<◌, ◌≤◌, List, [], ◌∷◌, take, length, get_or, Option, Some, None}
use Rattle.trees.specs.declared.TermId.{TermId}
use Rattle.trees.specs.declared.Sort.TheVariants.{Kind}
use Rattle.trees.specs.Tree.{Tree}
use Rattle.trees.specs.Sorts.{WellSorted, sort_of}
use Rattle.trees.specs.Node.{tree_at, Holds}
use Rattle.open_types.specs.declared.unify_types.Equation.{Equation}
use Rattle.open_types.specs.declared.unify_types.UnifyFault.{UnifyFault}
use Rattle.open_types.specs.declared.unify_types.UnifyFault.TheVariants.{Memory, Clash}
use Rattle.open_types.specs.unify_types.Assigned.{assign}

abbrev pub IsKind : Tree → Type 0
IsKind t = WellSorted t × (sort_of t ≡ Kind)

-- both sides are types that the store holds; what it holds is well sorted
pub record HoldsEquation (s : List Tree) (e : Equation) : Type 0 where
  pub left_held : Holds s e.left
  pub right_held : Holds s e.right
  pub left_kind : sort_of (tree_at s e.left) ≡ Kind
  pub right_kind : sort_of (tree_at s e.right) ≡ Kind

abbrev pub HoldEquations : List Tree → List Equation → Type 0
HoldEquations s es = (k : ℕ) (d : Equation) → k < length es → HoldsEquation s (get_or es k d)

abbrev pub equations_at : List Tree → List Equation → List (Tree × Tree)
equations_at s [] = []
equations_at s (e ∷ es) = (tree_at s e.left, tree_at s e.right) ∷ equations_at s es

-- the assignment makes both sides of each equation the same tree
abbrev pub SolvesAll : ℕ → (ℕ → Tree) → List (Tree × Tree) → Type 0
SolvesAll rigid f [] = Unit {0}
SolvesAll rigid f (e ∷ es) = (assign rigid f e.0 ≡ assign rigid f e.1) × SolvesAll rigid f es

-- a solution by types
pub record IsSolution (rigid : ℕ) (f : ℕ → Tree) (es : List (Tree × Tree)) : Type 0 where
  pub types : (j : ℕ) → IsKind (f j)
  pub solves : SolvesAll rigid f es

abbrev pub IsSolvable : ℕ → List (Tree × Tree) → Type 0
IsSolvable rigid es = (f : ℕ → Tree) × IsSolution rigid f es

abbrev pub IsUnsolvable : ℕ → List (Tree × Tree) → Type 0
IsUnsolvable rigid es = (f : ℕ → Tree) → SolvesAll rigid f es → ⊥

-- a solution by types, of which every solution is an instance
pub record HasPrincipal (rigid : ℕ) (es : List (Tree × Tree)) : Type 0 where
  pub assigned : ℕ → Tree
  pub solution : IsSolution rigid assigned es
  pub general : (f : ℕ → Tree) → SolvesAll rigid f es → (j : ℕ) → rigid ≤ j
      → assign rigid f (assigned j) ≡ f j

-- two solutions by types differ at the unknown
pub record IsLeftOpen (rigid : ℕ) (es : List (Tree × Tree)) (u : ℕ) : Type 0 where
  pub first : ℕ → Tree
  pub second : ℕ → Tree
  pub first_solves : IsSolution rigid first es
  pub second_solves : IsSolution rigid second es
  pub differ : first u ≡ second u → ⊥

-- the type of the unknown in every solution, as a number of the grown store, or none where two
-- solutions differ
abbrev pub IsFixedAs : ℕ → List (Tree × Tree) → List Tree → ℕ → Option TermId → Type 0
IsFixedAs rigid es new u None = IsLeftOpen rigid es u
IsFixedAs rigid es new u (Some id) =
    Holds new id × ((f : ℕ → Tree) → SolvesAll rigid f es → f u ≡ tree_at new id)

-- equations 0 to k have no solution, and those before k have one
abbrev pub IsLeastPrefix : ℕ → List (Tree × Tree) → UnifyFault → Type 0
IsLeastPrefix rigid es Memory = Unit {0}
IsLeastPrefix rigid es (Clash k) =
    (k < length es) × IsUnsolvable rigid (take (k + 1) es) × IsSolvable rigid (take k es)
