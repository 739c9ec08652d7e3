-- A substitution by single bindings, latest first, each of which was made after those below it.
use Rattle.std.specs.Prelude.{◌≡◌, ℕ, ◌<◌, ◌≤◌, ◌==◌, nat_eq, nat_le, Bool, true, false, cond, ◌||◌, if◌then◌else◌, List, [], ◌∷◌, length, get_or, reverse, Option, Some, None}
use Rattle.std.specs.HashMap.{HashMap, get}
use Rattle.std.specs.HashSet.{HashSet, contains}
use Rattle.trees.specs.Tree.{Tree, Leaf, One, Two, Three, Head, HEnd, HTyVar}
use Rattle.trees.specs.Node.{tree_at, Holds}
use Rattle.trees.specs.declared.TermId.{TermId}
use Rattle.open_types.specs.declared.unify_types.bindings.Bound.{Bound}
use Rattle.open_types.specs.unify_types.Assigned.{Variable, assign, Has, IsType}

-- an unknown and the type that it stands for
pub record Binding : Type 0 where
  pub unknown : ℕ
  pub type : Tree

-- one unknown replaced
abbrev pub replacing : Binding → ℕ → Tree
replacing b w = if w == b.unknown then b.type else Variable w

-- what each unknown stands for
abbrev pub resolve : ℕ → List Binding → ℕ → Tree
resolve rigid [] j = Variable j
resolve rigid (b ∷ bs) j = assign rigid (replacing b) (resolve rigid bs j)

-- each unknown was free when it was bound, to a type that the earlier bindings leave and in which
-- it doesn't occur
abbrev pub IsTriangular : ℕ → List Binding → Type 0
IsTriangular rigid [] = Unit {0}
IsTriangular rigid (b ∷ bs) =
    (rigid ≤ b.unknown) × (resolve rigid bs b.unknown ≡ Variable b.unknown)
    × (Has b.unknown b.type → ⊥) × (assign rigid (resolve rigid bs) b.type ≡ b.type) × IsType b.type
    × IsTriangular rigid bs

-- the assignment agrees with the bindings
abbrev pub Agrees : ℕ → (ℕ → Tree) → List Binding → Type 0
Agrees rigid f [] = Unit {0}
Agrees rigid f (b ∷ bs) = (f b.unknown ≡ assign rigid f b.type) × Agrees rigid f bs

-- the type to which an unknown was bound last
abbrev pub type_bound : ℕ → List Bound → Option TermId
type_bound u [] = None
type_bound u (b ∷ bs) = cond (b.unknown == u) (Some b.ty) (type_bound u bs)

-- the map has what each unknown was bound to last
abbrev pub AreFound : {S : Type 0} → List Bound → HashMap ℕ TermId S → Type 0
AreFound xs m = (u : ℕ) → get nat_eq m u ≡ type_bound u (reverse xs)

-- the bindings with their trees
abbrev pub bound_over : List Tree → List Bound → List Binding
bound_over s [] = []
bound_over s (b ∷ bs) = record { unknown = b.unknown; type = tree_at s b.ty } ∷ bound_over s bs

-- each binding's type is held
abbrev pub BindingsHeld : List Tree → List Bound → Type 0
BindingsHeld s [] = Unit {0}
BindingsHeld s (b ∷ bs) = Holds s b.ty × BindingsHeld s bs

-- each number in the map has its tree under the substitution
abbrev pub AreUnderSubstitution : {S : Type 0} → ℕ → List Binding → List Tree
    → HashMap ℕ TermId S → Type 0
AreUnderSubstitution rigid bs s m = (k : ℕ) (v : TermId) → get nat_eq m k ≡ Some v
    → (k < length s) × (v.0 < length s)
    × (tree_at s v ≡ assign rigid (resolve rigid bs) (get_or s k (Leaf HEnd)))

-- the unknown that is looked for, or any
abbrev pub is_sought : ℕ → Option ℕ → ℕ → Bool
is_sought rigid None j = nat_le rigid j
is_sought rigid (Some u) j = u == j

abbrev pub leaf_has_sought : ℕ → Option ℕ → Head → Bool
leaf_has_sought rigid sought (HTyVar j) = is_sought rigid sought j
leaf_has_sought rigid sought h = false

-- whether an unknown that is looked for occurs
abbrev pub has_sought : ℕ → Option ℕ → Tree → Bool
has_sought rigid sought (Leaf h) = leaf_has_sought rigid sought h
has_sought rigid sought (One h a) = has_sought rigid sought a
has_sought rigid sought (Two h a b) = has_sought rigid sought a || has_sought rigid sought b
has_sought rigid sought (Three h a b c) =
    has_sought rigid sought a || (has_sought rigid sought b || has_sought rigid sought c)

-- what is looked for occurs in none of these numbers
abbrev pub AreClear : {S : Type 0} → ℕ → Option ℕ → List Tree → HashSet ℕ S → Type 0
AreClear rigid sought s set = (k : ℕ) → contains nat_eq set k ≡ true
    → has_sought rigid sought (get_or s k (Leaf HEnd)) ≡ false
