-- A weighted sum that doesn't change where one atom is 1, for each of its atoms, is one constant.
use Rattle.std.proofs.Common.{◌≡◌, ℕ, Bool, true, false, List, [], ◌∷◌, ◌++◌, Option, Some, None, ◌≤◌, ◌^◌, ◌↔◌, refl, sym, ap, ◌∙◌, arith}
use Rattle.std.proofs.Math.IntN.{ℤ, pos, ◌+ℤ◌, ◌-ℤ◌, ◌*ℤ◌, neg_ℤ, zero-*ℤ, *ℤ_comm, *ℤ-zero, *ℤ-one}
use Rattle.std.specs.Prelude.{◌<ℤ◌}
use Rattle.std.proofs.lemmas.Int.{ints}
use Rattle.trees.specs.Tree.{Tree}
use Rattle.trees.specs.declared.ints.Ints.{Ints}
use Rattle.trees.specs.Facts.{Each}
use Rattle.linear_leaf.specs.Linear.{Bounded, bounded_at, addend, reading, part, total, weight, AreUses, ClosesLinear}
use Rattle.linear_leaf.specs.Valuations.{one_at, unit, same_tree, part_atoms, use_atoms, Cancels}
use Rattle.linear_leaf.proofs.Integers.{mul-sub, mul-one}
use Rattle.linear_leaf.proofs.Affine.{Line, Lies, affine, line_add, line_neg, line_by, line_flat, all_left, all_right}
use Rattle.linear_leaf.proofs.SameTree.{same_is, same_refl}

abbrev pub zero_at : Tree → ℤ
zero_at = one_at None

module _ (u w i : Tree → ℤ) (k : ℤ) where
  part_line : (z : Ints) (m : ℤ) (b : Option Bounded) → Each (Lies u w i zero_at k) (part_atoms z b) → Line k (part z u m b) (part z w m b) (part z i m b) (part z zero_at m b)
  part_line z m (Some b) l = line_by m k _ _ _ _ (line_add k _ _ _ _ _ _ _ _
      (line_add k _ _ _ _ _ _ _ _
      (affine u w i zero_at k z b.left (all_left (Lies u w i zero_at k) (reading z zero_at b.left).atoms (reading z zero_at b.right).atoms l))
      (line_neg k _ _ _ _ (affine u w i zero_at k z b.right (all_right (Lies u w i zero_at k) (reading z zero_at b.left).atoms (reading z zero_at b.right).atoms l))))
      (line_flat k (addend b.strict)))
  part_line z m None l = line_flat k (pos 0)

  total_line : (z : Ints) (s : List Tree) (uses : List (ℕ × ℤ)) → Each (Lies u w i zero_at k) (use_atoms z s uses) → Line k (total z s u uses) (total z s w uses) (total z s i uses) (total z s zero_at uses)
  total_line z s [] l = line_flat k (pos 0)
  total_line z s (x ∷ xs) l = line_add k _ _ _ _ _ _ _ _
      (part_line z x.1 (bounded_at z s x.0) (all_left (Lies u w i zero_at k) (part_atoms z (bounded_at z s x.0)) (use_atoms z s xs) l))
      (total_line z s xs (all_right (Lies u w i zero_at k) (part_atoms z (bounded_at z s x.0)) (use_atoms z s xs) l))

abbrev drop_by : Bool → ℤ → ℤ
drop_by true x = pos 0
drop_by false x = x

-- a valuation with 0 at a tree
abbrev drop_at : Tree → (Tree → ℤ) → Tree → ℤ
drop_at p v q = drop_by (same_tree p q) (v q)

-- and with 0 at each tree of a list
abbrev clear : List Tree → (Tree → ℤ) → Tree → ℤ
clear [] v = v
clear (p ∷ ps) v = clear ps (drop_at p v)

drop_zero : (c : Bool) (x : ℤ) → x ≡ pos 0 → drop_by c x ≡ pos 0
drop_zero true x h = refl
drop_zero false x h = h

stays : (ps : List Tree) (v : Tree → ℤ) (q : Tree) → v q ≡ pos 0 → clear ps v q ≡ pos 0
stays [] v q h = h
stays (p ∷ ps) v q h = stays ps (drop_at p v) q (drop_zero (same_tree p q) (v q) h)

flat_lies : (x : ℤ) → x ≡ pos 0 → Line (pos 0) x (pos 0) (pos 0) (pos 0)
flat_lies x h = rw h (line_flat (pos 0) (pos 0))

cleared : (ps : List Tree) (v : Tree → ℤ) → Each (Lies (clear ps v) zero_at zero_at zero_at (pos 0)) ps
cleared [] v = tt
cleared (p ∷ ps) v = (flat_lies (clear ps (drop_at p v) p) (stays ps (drop_at p v) p (let e = same_refl p in rw e refl)), cleared ps (drop_at p v))

drop_lies : (c : Bool) (k x : ℤ) → (c ≡ true → x ≡ k) → Line k x (drop_by c x) (unit c) (pos 0)
drop_lies true k x h = record { line = let e = h refl in let f = mul-one k in omega (arith, ints) }
drop_lies false k x h = record { line = let e = *ℤ-zero k in omega (arith, ints) }

each_of : (P : Tree → Type 0) → ((q : Tree) → P q) → (ps : List Tree) → Each P ps
each_of P f [] = tt
each_of P f (p ∷ ps) = (f p, each_of P f ps)

level : (k u w i o : ℤ) → Line k u w i o → i ≡ o → u ≡ w
level k u w i o h e = let f = mul-sub k i o in let g = ap (λ (x : ℤ). k *ℤ x) e in omega (arith, ints, h.line)

module _ (z : Ints) (s : List Tree) (uses : List (ℕ × ℤ)) where
  step : (p : Tree) (v : Tree → ℤ) → Cancels z s uses p → total z s v uses ≡ total z s (drop_at p v) uses
  step p v h = level (v p) _ _ _ _
      (total_line v (drop_at p v) (one_at (Some p)) (v p) z s uses (each_of _ (λ q. drop_lies (same_tree p q) (v p) (v q) (λ e. ap v (sym (same_is p q e)))) (use_atoms z s uses)))
      h

  steps : (ps : List Tree) (v : Tree → ℤ) → Each (Cancels z s uses) ps → total z s v uses ≡ total z s (clear ps v) uses
  steps [] v h = refl
  steps (p ∷ ps) v h = step p v h.0 ∙ steps ps (drop_at p v) h.1

  pub closing : Each (Cancels z s uses) (use_atoms z s uses) → (v : Tree → ℤ) → total z s v uses ≡ total z s zero_at uses
  closing h v = steps (use_atoms z s uses) v h
      ∙ level (pos 0) _ _ _ _ (total_line (clear (use_atoms z s uses) v) zero_at zero_at (pos 0) z s uses (cleared (use_atoms z s uses) v)) refl

  pub closes_if : AreUses z s uses → weight z s uses ≤ 2 ^ 126 → pos 0 <ℤ total z s zero_at uses → Each (Cancels z s uses) (use_atoms z s uses) → ClosesLinear z s uses
  closes_if a l h c = record { allowed = a; constant = total z s zero_at uses; above = h; is = closing c; light = l }

  pub closes_allowed : ClosesLinear z s uses → AreUses z s uses
  closes_allowed c = c.allowed

  pub closes_above : ClosesLinear z s uses → pos 0 <ℤ total z s zero_at uses
  closes_above c = let e = c.is zero_at in rw e c.above

  pub closes_cancels : ClosesLinear z s uses → Each (Cancels z s uses) (use_atoms z s uses)
  closes_cancels c = each_of (Cancels z s uses) (λ p. c.is (one_at (Some p)) ∙ sym (c.is zero_at)) (use_atoms z s uses)

  pub closes_light : ClosesLinear z s uses → weight z s uses ≤ 2 ^ 126
  closes_light c = c.light

each_join : (P : Tree → Type 0) (xs ys : List Tree) → Each P xs → Each P ys → Each P (xs ++ ys)
each_join P [] ys h k = k
each_join P (x ∷ xs) ys h k = (h.0, each_join P xs ys h.1 k)

pub each_append : (P : Tree → Type 0) (xs ys : List Tree) → Each P (xs ++ ys) ↔ (Each P xs × Each P ys)
each_append P xs ys = (λ h. (all_left P xs ys h, all_right P xs ys h), λ h. each_join P xs ys h.0 h.1)
