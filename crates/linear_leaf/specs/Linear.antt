-- The linear leaf: a weighted sum of formulas over the integers that can't hold (Farkas). Terms are
-- read as sums of atoms; whatever integers the atoms stand for, the weighted sum is one constant
-- above 0.
use Rattle.std.specs.Prelude.{◌≡◌, ℕ, ℤ, pos, ◌+◌, ◌*◌, ◌≤◌, ◌^◌, ◌==◌, ◌+ℤ◌, ◌-ℤ◌, ◌*ℤ◌, neg_ℤ, nat_abs, ◌≤ℤ◌, ◌<ℤ◌, Bool, true, false, ◌&&◌, if◌then◌else◌, List, [], ◌∷◌, ◌++◌, Option, Some, None, slice_get, max, IsSomeAnd, IsTrue, ◌⊎◌}
use Rattle.std.specs.Option.{option_and_then}
use Rattle.trees.specs.Tree.{Tree, Leaf, One, Two, Three, HEnd, HNum, HCell, HFun, HPred, HEq, HNot}
use Rattle.trees.specs.Sorts.{type_of, int_type}
use Rattle.trees.specs.declared.ints.Ints.{Ints}

-- a term read as a sum: its value where its atoms have values, its weight, and the atoms that are
-- in it
pub record Sum : Type 0 where
  pub value : ℤ
  pub weight : ℕ
  pub atoms : List Tree

abbrev pub constant_sum : ℤ → Sum
constant_sum n = record { value = n; weight = max (nat_abs n) 1; atoms = [] }

abbrev pub negated_sum : Sum → Sum
negated_sum a = record { value = neg_ℤ a.value; weight = a.weight; atoms = a.atoms }

abbrev pub sum : Sum → Sum → Sum
sum a b =
    record { value = a.value +ℤ b.value; weight = a.weight + b.weight; atoms = a.atoms ++ b.atoms }

abbrev pub has_any : List Tree → Bool
has_any [] = false
has_any (x ∷ xs) = true

abbrev pub both_have : List Tree → List Tree → Bool
both_have xs ys = has_any xs && has_any ys

-- a function of two arguments in a sum
pub data SumOperation : Type 0 where
  Add : SumOperation
  Subtract : SumOperation
  Multiply : SumOperation
  Other : SumOperation

abbrev pub sum_operation : Ints → ℕ → SumOperation
sum_operation z f = if f == z.add then Add
    else (if f == z.sub then Subtract else (if f == z.mul then Multiply else Other))

module _ (v : Tree → ℤ) where
  abbrev pub atom : Tree → Sum
  atom e = record { value = v e; weight = 1; atoms = e ∷ [] }

  -- a product with an atom on both sides is an atom
  abbrev pub product_by : Bool → Tree → Sum → Sum → Sum
  product_by true e a b = atom e
  product_by false e a b = record {
    value = a.value *ℤ b.value;
    weight =
        a.weight * b.weight;
    atoms = a.atoms ++ b.atoms;
  }

  abbrev pub negated_or_same : Bool → Tree → Sum → Sum
  negated_or_same true e a = negated_sum a
  negated_or_same false e a = atom e

  abbrev pub with_two : SumOperation → Tree → Sum → Sum → Sum
  with_two Add e a b = sum a b
  with_two Subtract e a b = sum a (negated_sum b)
  with_two Multiply e a b = product_by (both_have a.atoms b.atoms) e a b
  with_two Other e a b = atom e

-- a term read as a sum; what is no sum is an atom
unfoldable pub reading : Ints → (Tree → ℤ) → Tree → Sum
reading z v (Leaf (HNum n)) = constant_sum n
reading z v (Three (HFun f) types (Two HCell a (Leaf HEnd)) ty) =
    negated_or_same v (f == z.neg) (Three (HFun f) types (Two HCell a (Leaf HEnd)) ty)
    (reading z v a)
reading z v (Three (HFun f) types (Two HCell a (Two HCell b (Leaf HEnd))) ty) =
    with_two v (sum_operation z f) (Three (HFun f) types (Two HCell a (Two HCell b (Leaf HEnd))) ty)
    (reading z v a) (reading z v b)
reading z v e = atom v e

-- a formula that may be in the sum: `left - right`, and 1 where it is strict, is at most 0, or is 0
pub record Bounded : Type 0 where
  pub left : Tree
  pub right : Tree
  pub strict : Bool
  pub equation : Bool

abbrev pub addend : Bool → ℤ
addend true = pos 1
addend false = pos 0

abbrev pub less : Tree → Tree → Option Bounded
less a b = Some (record { left = a; right = b; strict = true; equation = false })

abbrev pub at_most : Tree → Tree → Option Bounded
at_most a b = Some (record { left = a; right = b; strict = false; equation = false })

-- `a < b`, `a <= b`, `a > b`, `a >= b`, or their negations
abbrev pub comparison_bound : Ints → ℕ → Tree → Tree → Option Bounded
comparison_bound z p a b = if p == z.lt then less a b
    else (if p == z.le then at_most a b
    else (if p == z.gt then less b a else (if p == z.ge then at_most b a else None)))

abbrev pub uncompared : Ints → ℕ → Tree → Tree → Option Bounded
uncompared z p a b = if p == z.lt then at_most b a
    else (if p == z.le then less b a
    else (if p == z.gt then at_most a b else (if p == z.ge then less a b else None)))

-- the members of a list of two
abbrev pub pair_of : Tree → Option (Tree × Tree)
pair_of (Two HCell a (Two HCell b (Leaf HEnd))) = Some (a, b)
pair_of e = None

abbrev pub bounded : Ints → Tree → Option Bounded
bounded z (Two HEq a b) = Some (record { left = a; right = b; strict = false; equation = true })
bounded z (Two (HPred p) types args) =
    option_and_then (λ q. comparison_bound z p q.0 q.1) (pair_of args)
bounded z (One HNot (Two (HPred p) types args)) =
    option_and_then (λ q. uncompared z p q.0 q.1) (pair_of args)
bounded z e = None

abbrev pub bounded_at : Ints → List Tree → ℕ → Option Bounded
bounded_at z s i = option_and_then (bounded z) (slice_get s i)

-- an equation is one of integers, and the multiplier of an inequality is at least 0
abbrev pub IsRightMultiplier : Bounded → ℤ → Type 0
IsRightMultiplier b m =
    (IsTrue b.equation × (type_of b.left ≡ Some int_type)) ⊎ ((b.equation ≡ false) × (pos 0 ≤ℤ m))

-- each place has a formula that may be in the sum
abbrev pub AreUses : Ints → List Tree → List (ℕ × ℤ) → Type 0
AreUses z s [] = Unit {0}
AreUses z s (u ∷ us) =
    IsSomeAnd (bounded_at z s u.0) (λ b. IsRightMultiplier b u.1) × AreUses z s us

-- what is at most 0, or is 0, where the atoms have values
abbrev pub difference : Ints → (Tree → ℤ) → Bounded → ℤ
difference z v b = ((reading z v b.left).value -ℤ (reading z v b.right).value) +ℤ addend b.strict

-- a formula's share of the weighted sum
abbrev pub part : Ints → (Tree → ℤ) → ℤ → Option Bounded → ℤ
part z v m (Some b) = m *ℤ difference z v b
part z v m None = pos 0

abbrev pub total : Ints → List Tree → (Tree → ℤ) → List (ℕ × ℤ) → ℤ
total z s v [] = pos 0
total z s v (u ∷ us) = part z v u.1 (bounded_at z s u.0) +ℤ total z s v us

abbrev pub zeros : Tree → ℤ
zeros e = pos 0

abbrev pub heft : Ints → Bounded → ℕ
heft z b = (reading z zeros b.left).weight + (reading z zeros b.right).weight + 2

abbrev pub weight_of : Ints → ℤ → Option Bounded → ℕ
weight_of z m (Some b) = nat_abs m * heft z b
weight_of z m None = 0

abbrev pub weight : Ints → List Tree → List (ℕ × ℤ) → ℕ
weight z s [] = 0
weight z s (u ∷ us) = weight_of z u.1 (bounded_at z s u.0) + weight z s us

-- the sum can't hold
pub record ClosesLinear (z : Ints) (s : List Tree) (uses : List (ℕ × ℤ)) : Type 0 where
  pub allowed : AreUses z s uses
  pub constant : ℤ
  pub above : pos 0 <ℤ constant
  pub is : (v : Tree → ℤ) → total z s v uses ≡ constant
  pub light : weight z s uses ≤ 2 ^ 126
