-- Finite values of algebraic types: the least set of types of a group that has each type with a
-- constructor whose fields all have one (least fixed points, any textbook on inductive
-- definitions).
use Rattle.std.specs.Prelude.{◌≡◌, ℕ, ◌==◌, Bool, IsTrue, List, [], ◌∷◌, map, All, Contains, ◌⊎◌}
use Rattle.std.specs.List.{list_any}
use Rattle.trees.specs.Tree.{Tree, One, HTyApp}
use Rattle.tasks.specs.Task.{ConstructorTree, AlgebraicTree}

abbrev pub type_symbols : List AlgebraicTree → List ℕ
type_symbols ts = map (λ (a : AlgebraicTree). a.symbol) ts

-- a type of the group has one where the set has it, and each other type has one
abbrev pub HasValue : List ℕ → (ℕ → Bool) → Tree → Type 0
HasValue group set (One (HTyApp k) a) = Contains group k → IsTrue (set k)
HasValue group set _ = Unit {0}

abbrev pub HaveValues : List ℕ → (ℕ → Bool) → List Tree → Type 0
HaveValues group set [] = Unit {0}
HaveValues group set (t ∷ ts) = HasValue group set t × HaveValues group set ts

-- the fields of some constructor all have one
abbrev pub SomeHasValues : List ℕ → (ℕ → Bool) → List ConstructorTree → Type 0
SomeHasValues group set [] = ⊥
SomeHasValues group set (c ∷ cs) = HaveValues group set c.fields ⊎ SomeHasValues group set cs

-- each type with such a constructor is in the set
abbrev pub IsClosedOver : List ℕ → List AlgebraicTree → (ℕ → Bool) → Type 0
IsClosedOver group [] set = Unit {0}
IsClosedOver group (a ∷ ts) set =
    (SomeHasValues group set a.cons → IsTrue (set a.symbol)) × IsClosedOver group ts set

abbrev pub IsClosed : List AlgebraicTree → (ℕ → Bool) → Type 0
IsClosed ts set = IsClosedOver (type_symbols ts) ts set

-- it is in each such set, and so in the least one
abbrev pub IsInhabited : List AlgebraicTree → ℕ → Type 0
IsInhabited ts k = (set : ℕ → Bool) → IsClosed ts set → IsTrue (set k)

abbrev pub AreInhabited : List AlgebraicTree → Type 0
AreInhabited ts = All (IsInhabited ts) (type_symbols ts)

-- the numbers of a list as a set
abbrev pub is_member : List ℕ → ℕ → Bool
is_member ks k = list_any (λ j. j == k) ks

-- a type of these with such a constructor, which the list of known ones lacks
abbrev pub NextValued : List ℕ → List ℕ → List AlgebraicTree → ℕ → Type 0
NextValued group known [] k = ⊥
NextValued group known (a ∷ ts) k =
    ((a.symbol ≡ k) × SomeHasValues group (is_member known) a.cons × (Contains known k → ⊥))
    ⊎ NextValued group known ts k
