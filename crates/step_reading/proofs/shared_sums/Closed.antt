-- What is left of a weighted sum tells whether it can't hold.
use Rattle.std.proofs.Common.{◌≡◌, ℕ, ◌≤◌, ◌^◌, List, [], ◌∷◌, Option, Some, IfSome, IsSome, refl, sym, ap, ◌∙◌, arith}
use Rattle.std.specs.Prelude.{◌<ℤ◌}
use Rattle.std.proofs.Math.IntN.{ℤ, pos, ◌+ℤ◌, ◌-ℤ◌, ◌*ℤ◌, neg_ℤ}
use Rattle.std.proofs.lemmas.Int.{ints}
use Rattle.trees.specs.Tree.{Tree}
use Rattle.trees.specs.declared.ints.Ints.{Ints}
use Rattle.linear_leaf.specs.Linear.{Bounded, bounded_at, AreUses, weight, part, total, zeros, ClosesLinear}
use Rattle.linear_leaf.proofs.Integers.{mul-add, mul-sub, mul-one}
use Rattle.step_reading.specs.declared.shared_sums.pending.Pending.{Pending}
use Rattle.step_reading.specs.shared_sums.Known.{IsInteger}
use Rattle.step_reading.specs.shared_sums.Pending.{weighed, value_at, IsSum, IsFlat, Differs}
use Rattle.step_reading.proofs.shared_sums.Steps.{neg-times}

pub strict_part : (n m l r : ℤ) → ((n +ℤ m *ℤ l) +ℤ neg_ℤ m *ℤ r) +ℤ m ≡ n +ℤ m *ℤ ((l -ℤ r) +ℤ pos 1)
strict_part n m l r = let e = mul-add m (l -ℤ r) (pos 1) in let f = mul-sub m l r in let g = mul-one m in let h = neg-times m r in omega (arith, ints)

pub plain_part : (n m l r : ℤ) → (n +ℤ m *ℤ l) +ℤ neg_ℤ m *ℤ r ≡ n +ℤ m *ℤ ((l -ℤ r) +ℤ pos 0)
plain_part n m l r = let f = mul-sub m l r in let h = neg-times m r in let g : (l -ℤ r) +ℤ pos 0 ≡ l -ℤ r = omega (arith, ints) in rw g (omega (arith, ints))

pub sum_more : (n a b : ℤ) → (n +ℤ a) +ℤ b ≡ n +ℤ (a +ℤ b)
sum_more n a b = omega (arith, ints)

pub all_sum : (z : Ints) (s : List Tree) (v : Tree → ℤ) (n : ℤ) (us more : List (ℕ × ℤ)) (u : ℕ × ℤ) (b : Option Bounded) → us ≡ u ∷ more → b ≡ bounded_at z s u.0
    → (n +ℤ part z v u.1 b) +ℤ total z s v more ≡ n +ℤ total z s v us
all_sum z s v n us more u b e h = rw (e, h) (sum_more n (part z v u.1 (bounded_at z s u.0)) (total z s v more))

-- nothing is 0
pub start_sum : (o : Option ℤ) (es : List (ℕ × ℤ)) → o ≡ Some (pos 0) → es ≡ [] → (f : ℕ → ℤ) → IfSome o (λ c. c +ℤ weighed f es ≡ pos 0)
start_sum o es e h f = rw (e, h) refl

module _ (z : Ints) (s ts : List Tree) (uses : List (ℕ × ℤ)) (p q : Pending) (sums : (v : Tree → ℤ) → IsSum (value_at z s v) p (pos 0 +ℤ total z ts v uses)) where
  flat_is : (c : ℤ) → q.constant ≡ Some c → IsFlat z s p q → (v : Tree → ℤ) → total z ts v uses ≡ c
  flat_is c e h v =
      let i : IsInteger (pos 0 +ℤ total z ts v uses) q.constant = h v (pos 0 +ℤ total z ts v uses) (sums v) in
      let g : c ≡ pos 0 +ℤ total z ts v uses = rw e at i in omega (arith, ints)

  pub closed_if : AreUses z ts uses → weight z ts uses ≤ 2 ^ 126 → (c : ℤ) → q.constant ≡ Some c → IsFlat z s p q → pos 0 <ℤ c → ClosesLinear z ts uses
  closed_if a l c e h g = record { allowed = a; constant = c; above = g; is = flat_is c e h; light = l }

  pub closed_above : (c : ℤ) → q.constant ≡ Some c → IsFlat z s p q → ClosesLinear z ts uses → pos 0 <ℤ c
  closed_above c e h k = let g : c ≡ k.constant = sym (flat_is c e h zeros) ∙ k.is zeros in rw g k.above

  pub not_closed : IsSome q.constant → Differs z s p q → ClosesLinear z ts uses → ⊥
  not_closed i d k = d.apart (pos 0 +ℤ total z ts d.one uses) (pos 0 +ℤ total z ts d.other uses) (sums d.one) (sums d.other) i (ap (λ (x : ℤ). pos 0 +ℤ x) (k.is d.one ∙ sym (k.is d.other)))
