-- What a term's weight says of its value where one atom is 1 and the others are 0.
use Rattle.std.proofs.Common.{◌≡◌, ℕ, ◌≤◌, Bool, true, false, Option, Some, None, refl, arith}
use Rattle.std.proofs.Math.IntN.{ℤ, pos, nat_abs}
use Rattle.trees.specs.Tree.{Tree}
use Rattle.trees.specs.declared.ints.Ints.{Ints}
use Rattle.linear_leaf.specs.Linear.{reading, zeros}
use Rattle.linear_leaf.specs.Valuations.{one_at, unit, same_tree}
use Rattle.linear_leaf.proofs.SameTree.{same_is, same_refl}
use Rattle.linear_leaf.proofs.Same.{same}
use Rattle.linear_leaf.proofs.Small.{IsUnit, small}

unit_small : (c : Bool) → nat_abs (unit c) ≤ 1
unit_small true = omega arith
unit_small false = omega arith

units : (p : Option Tree) → IsUnit (one_at p)
units None e = omega arith
units (Some p) e = unit_small (same_tree p e)

pub value_bound : (z : Ints) (p : Option Tree) (e : Tree) → nat_abs (reading z (one_at p) e).value ≤ (reading z (one_at None) e).weight
value_bound z p e = let h = small (one_at p) (units p) z e in omega (arith, (same z (one_at p) (one_at None) e).weight, h.within)

pub weight_above : (z : Ints) (e : Tree) → 1 ≤ (reading z (one_at None) e).weight
weight_above z e = let h = small (one_at None) (units None) z e in omega (arith, h.above)

pub one_same : (p e : Tree) → p ≡ e → one_at (Some p) e ≡ pos 1
one_same p e h = rw (← h, same_refl p) refl

unit_off : (c : Bool) → (c ≡ true → ⊥) → unit c ≡ pos 0
unit_off true h = absurd (h refl)
unit_off false h = refl

pub one_other : (p e : Tree) → (p ≡ e → ⊥) → one_at (Some p) e ≡ pos 0
one_other p e h = unit_off (same_tree p e) (λ k. h (same_is p e k))

pub atoms_at : (z : Ints) (p : Option Tree) (e : Tree) → (reading z (one_at p) e).atoms ≡ (reading z zeros e).atoms
atoms_at z p e = (same z (one_at p) zeros e).atoms
