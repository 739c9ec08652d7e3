-- What the weight of the sum says of its value where one atom is 1 and the others are 0.
use Rattle.std.proofs.Common.{◌≡◌, ℕ, ◌+◌, ◌*◌, ◌≤◌, ◌^◌, Bool, true, false, zero, suc, List, [], ◌∷◌, Option, Some, None, refl, arith}
use Rattle.std.proofs.Math.IntN.{ℤ, pos, negsuc, ◌+ℤ◌, ◌-ℤ◌, ◌*ℤ◌, neg_ℤ, nat_abs}
use Rattle.std.proofs.lemmas.Int.{ints, unsigned_abs-mul}
use Rattle.trees.specs.Tree.{Tree}
use Rattle.trees.specs.declared.ints.Ints.{Ints}
use Rattle.linear_leaf.specs.Linear.{Bounded, addend, bounded_at, reading, difference, heft, part, total, weight_of, weight}
use Rattle.linear_leaf.specs.Valuations.{one_at}
use Rattle.linear_leaf.proofs.Integers.{nat_abs-add, nat_abs-neg, mul_le, above}
use Rattle.linear_leaf.proofs.Bounds.{value_bound, weight_above}

addend_bound : (c : Bool) → nat_abs (addend c) ≤ 1
addend_bound true = omega arith
addend_bound false = omega arith

pub minus_bound : (l r : ℤ) (c : Bool) → nat_abs (l +ℤ neg_ℤ r) + nat_abs (addend c) ≤ nat_abs l + nat_abs r + 1
minus_bound l r c = let f = nat_abs-add l (neg_ℤ r) in let g = nat_abs-neg r in let a = addend_bound c in omega arith

pub difference_bound : (z : Ints) (p : Option Tree) (b : Bounded) → nat_abs (difference z (one_at p) b) ≤ heft z b
difference_bound z p b =
    let l = (reading z (one_at p) b.left).value in let r = (reading z (one_at p) b.right).value in
    let e = nat_abs-add (l -ℤ r) (addend b.strict) in let f = nat_abs-add l (neg_ℤ r) in let g = nat_abs-neg r in
    let h = value_bound z p b.left in let k = value_bound z p b.right in let a = addend_bound b.strict in omega arith

pub times_bound : (z : Ints) (p : Option Tree) (m : ℤ) (b : Bounded) → nat_abs m * nat_abs (difference z (one_at p) b) ≤ nat_abs m * heft z b
times_bound z p m b = mul_le (nat_abs m) (nat_abs m) (nat_abs (difference z (one_at p) b)) (heft z b) (omega arith) (difference_bound z p b)

pub times_light : (m x : ℤ) (h : ℕ) → nat_abs x ≤ h → nat_abs m * h ≤ 2 ^ 126 → nat_abs m * nat_abs x ≤ 2 ^ 126
times_light m x h e l = let k = mul_le (nat_abs m) (nat_abs m) (nat_abs x) h (omega arith) e in omega arith

not_zero : (m : ℤ) → (m ≡ pos 0 → ⊥) → 1 ≤ nat_abs m
not_zero m h = grind (arith, ints)

pub heft_light : (z : Ints) (m : ℤ) (b : Bounded) → (m ≡ pos 0 → ⊥) → weight_of z m (Some b) ≤ 2 ^ 126 → heft z b ≤ 2 ^ 126
heft_light z m b h k = let e = above (nat_abs m) (heft z b) (heft z b) (not_zero m h) (omega arith) in omega arith

pub part_bound : (z : Ints) (p : Option Tree) (m : ℤ) (b : Option Bounded) → nat_abs (part z (one_at p) m b) ≤ weight_of z m b
part_bound z p m None = omega arith
part_bound z p m (Some b) = let e = unsigned_abs-mul m (difference z (one_at p) b) in let k = times_bound z p m b in omega arith

pub total_bound : (z : Ints) (s : List Tree) (p : Option Tree) (uses : List (ℕ × ℤ)) → nat_abs (total z s (one_at p) uses) ≤ weight z s uses
total_bound z s p [] = omega arith
total_bound z s p (u ∷ us) =
    let h = part_bound z p u.1 (bounded_at z s u.0) in
    let k = total_bound z s p us in
    let e = nat_abs-add (part z (one_at p) u.1 (bounded_at z s u.0)) (total z s (one_at p) us) in omega arith

pub times_within : (m x r : ℤ) (h : ℕ) → r ≡ m *ℤ x → nat_abs x ≤ h → nat_abs r ≤ nat_abs m * h
times_within m x r h e b = let k = mul_le (nat_abs m) (nat_abs m) (nat_abs x) h (omega arith) b in let f = unsigned_abs-mul m x in rw e (omega arith)
