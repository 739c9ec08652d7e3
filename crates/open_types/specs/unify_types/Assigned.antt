-- Types at assigned unknowns, and the solutions of type equations (Robinson's unification; rank-1
-- polymorphism).
use Rattle.std.specs.Prelude.{◌≡◌, ℕ, Bool, true, false, nat_lt, if◌then◌else◌, List, [], ◌∷◌, ◌⊎◌}
use Rattle.trees.specs.Tree.{Tree, Leaf, One, Two, Three, Head, HTyVar, HTyRigid, HTyApp, HEnd, HCell}
use Rattle.trees.specs.Node.{tree_at}
use Rattle.open_types.specs.declared.unify_types.Equation.{Equation}

-- the type variable j
abbrev pub Variable : ℕ → Tree
Variable j = Leaf (HTyVar j)

abbrev pub leaf_assigned : ℕ → (ℕ → Tree) → Head → Tree
leaf_assigned rigid f (HTyVar j) = if nat_lt j rigid then Variable j else f j
leaf_assigned rigid f h = Leaf h

-- the tree with what is assigned in place of each unknown; the type variables below `rigid` stand
-- for themselves
abbrev pub assign : ℕ → (ℕ → Tree) → Tree → Tree
assign rigid f (Leaf h) = leaf_assigned rigid f h
assign rigid f (One h a) = One h (assign rigid f a)
assign rigid f (Two h a b) = Two h (assign rigid f a) (assign rigid f b)
assign rigid f (Three h a b c) = Three h (assign rigid f a) (assign rigid f b) (assign rigid f c)

abbrev pub leaf_typed : Bool → Head → Type 0
leaf_typed true (HTyVar j) = Unit {0}
leaf_typed true (HTyRigid s) = Unit {0}
leaf_typed false HEnd = Unit {0}
leaf_typed _ _ = ⊥

abbrev pub one_typed : Bool → Head → Type 0
one_typed true (HTyApp s) = Unit {0}
one_typed _ _ = ⊥

abbrev pub two_typed : Bool → Head → Type 0
two_typed false HCell = Unit {0}
two_typed _ _ = ⊥

-- a type, or with `false` a list of types
abbrev pub IsTypeOrTypes : Bool → Tree → Type 0
IsTypeOrTypes k (Leaf h) = leaf_typed k h
IsTypeOrTypes k (One h a) = one_typed k h × IsTypeOrTypes false a
IsTypeOrTypes k (Two h a b) = two_typed k h × IsTypeOrTypes true a × IsTypeOrTypes false b
IsTypeOrTypes k (Three h a b c) = ⊥

abbrev pub IsType : Tree → Type 0
IsType t = IsTypeOrTypes true t

-- the assignment makes both sides the same tree
abbrev pub MeetsEquation : ℕ → (ℕ → Tree) → List Tree → Equation → Type 0
MeetsEquation rigid f s e = assign rigid f (tree_at s e.left) ≡ assign rigid f (tree_at s e.right)

-- a solution of the equations
abbrev pub Solves : ℕ → (ℕ → Tree) → List Tree → List Equation → Type 0
Solves rigid f s [] = Unit {0}
Solves rigid f s (e ∷ es) = MeetsEquation rigid f s e × Solves rigid f s es

abbrev pub leaf_has : ℕ → Head → Type 0
leaf_has x (HTyVar j) = j ≡ x
leaf_has x h = ⊥

-- the type variable x occurs
abbrev pub Has : ℕ → Tree → Type 0
Has x (Leaf h) = leaf_has x h
Has x (One h a) = Has x a
Has x (Two h a b) = Has x a ⊎ Has x b
Has x (Three h a b c) = Has x a ⊎ (Has x b ⊎ Has x c)
