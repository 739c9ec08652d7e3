-- A term's value is at most its weight where its atoms are at most 1, and its weight is at least 1.
use Rattle.std.proofs.Common.{◌≡◌, ℕ, ◌+◌, ◌*◌, ◌≤◌, max, Bool, true, false, refl, arith}
use Rattle.std.proofs.Math.IntN.{ℤ, pos, ◌+ℤ◌, ◌*ℤ◌, neg_ℤ, nat_abs}
use Rattle.std.proofs.lemmas.Int.{ints, unsigned_abs-mul}
use Rattle.trees.specs.Tree.{Tree, Leaf, One, Two, Three, HEnd, HNum, HCell, HFun}
use Rattle.trees.specs.declared.ints.Ints.{Ints}
use Rattle.linear_leaf.specs.Linear.{Sum, constant_sum, negated_or_same, with_two, product_by, both_have, sum, negated_sum, atom, reading, SumOperation, Add, Subtract, Multiply, Other, sum_operation}
use Rattle.linear_leaf.proofs.Integers.{nat_abs-add, nat_abs-neg, mul_le, one-mul-le}

pub record Small (a : Sum) : Type 0 where
  pub above : 1 ≤ a.weight
  pub within : nat_abs a.value ≤ a.weight

abbrev pub IsUnit : (Tree → ℤ) → Type 0
IsUnit v = (e : Tree) → nat_abs (v e) ≤ 1

module _ (v : Tree → ℤ) (u : IsUnit v) where
  atom_small : (e : Tree) → Small (atom v e)
  atom_small e = record { above = omega arith; within = u e }

  number_small : (n : ℤ) → Small (constant_sum n)
  number_small n = record { above = omega arith; within = omega arith }

  one_small : (c : Bool) (e : Tree) (a : Sum) → Small a → Small (negated_or_same v c e a)
  one_small true e a h = record { above = h.above; within = let p = nat_abs-neg a.value in omega (arith, h.within) }
  one_small false e a h = atom_small e

  product_small : (c : Bool) (e : Tree) (a b : Sum) → Small a → Small b → Small (product_by v c e a b)
  product_small true e a b h k = atom_small e
  product_small false e a b h k = record {
    above = one-mul-le a.weight b.weight h.above k.above;
    within = let p = unsigned_abs-mul a.value b.value in let q = mul_le (nat_abs a.value) a.weight (nat_abs b.value) b.weight h.within k.within in omega arith;
  }

  two_small : (op : SumOperation) (e : Tree) (a b : Sum) → Small a → Small b → Small (with_two v op e a b)
  two_small Add e a b h k = record { above = omega (arith, h.above); within = let p = nat_abs-add a.value b.value in omega (arith, h.within, k.within) }
  two_small Subtract e a b h k = record { above = omega (arith, h.above); within = let p = nat_abs-add a.value (neg_ℤ b.value) in let q = nat_abs-neg b.value in omega (arith, h.within, k.within) }
  two_small Multiply e a b h k = product_small _ e a b h k
  two_small Other e a b h k = atom_small e

  pub small : (z : Ints) (e : Tree) → Small (reading z v e)
  unfolding reading
  small z (Leaf (HNum n)) = number_small n
  small z (Three (HFun f) types (Two HCell a (Leaf HEnd)) ty) = one_small _ _ _ (small z a)
  small z (Three (HFun f) types (Two HCell a (Two HCell b (Leaf HEnd))) ty) = two_small _ _ _ _ (small z a) (small z b)
  small z e = atom_small _
