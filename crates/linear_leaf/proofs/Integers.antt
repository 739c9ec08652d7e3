-- Laws of integers that products need.
use Rattle.std.proofs.Common.{zero, suc, inl, inr, ◌≡◌, ℕ, ◌+◌, ◌*◌, ◌≤◌, min, refl, sym, ◌∙◌, ap, arith}
use Rattle.std.proofs.Math.IntN.{ℤ, pos, negsuc, ◌+ℤ◌, ◌-ℤ◌, ◌*ℤ◌, neg_ℤ, nat_abs, ℤ_ind, suc_ℤ, pred_ℤ, +ℤ_one, -ℤ_one, zero-*ℤ, suc_ℤ-*ℤ, pred_ℤ-*ℤ, *ℤ_comm, -ℤ-+ℤ_cancel}
use Rattle.std.proofs.Math.Nat.{mul_comm}
use Rattle.std.proofs.lemmas.Bool.{cases_lt}
use Rattle.std.proofs.lemmas.Int.{ints, unsigned_abs-mul}

suc-mul : (m k : ℤ) → (m +ℤ pos 1) *ℤ k ≡ m *ℤ k +ℤ k
suc-mul m k = ap (λ (x : ℤ). x *ℤ k) (+ℤ_one m) ∙ suc_ℤ-*ℤ m k

pred-mul : (m k : ℤ) → (m +ℤ neg_ℤ (pos 1)) *ℤ k ≡ m *ℤ k -ℤ k
pred-mul m k = ap (λ (x : ℤ). x *ℤ k) (-ℤ_one m) ∙ pred_ℤ-*ℤ m k

pub mul-add : (m a b : ℤ) → m *ℤ (a +ℤ b) ≡ m *ℤ a +ℤ m *ℤ b
mul-add m a b = ℤ_ind (λ (m : ℤ). m *ℤ (a +ℤ b) ≡ m *ℤ a +ℤ m *ℤ b)
    (let e = zero-*ℤ (a +ℤ b) in let x = zero-*ℤ a in let y = zero-*ℤ b in omega (arith, ints))
    (λ n h. let e = suc-mul (pos n) (a +ℤ b) in let x = suc-mul (pos n) a in let y = suc-mul (pos n) b in omega (arith, ints))
    (λ n h. let e = pred-mul (neg_ℤ (pos n)) (a +ℤ b) in let x = pred-mul (neg_ℤ (pos n)) a in let y = pred-mul (neg_ℤ (pos n)) b in omega (arith, ints))
    m

pub mul-sub : (m a b : ℤ) → m *ℤ (a -ℤ b) ≡ m *ℤ a -ℤ m *ℤ b
mul-sub m a b = let e = mul-add m (a -ℤ b) b in let h = ap (λ (x : ℤ). m *ℤ x) (-ℤ-+ℤ_cancel a b) in omega (arith, ints)

pub mul-swap : (m k a : ℤ) → m *ℤ (k *ℤ a) ≡ k *ℤ (m *ℤ a)
mul-swap m k a = ℤ_ind (λ (m : ℤ). m *ℤ (k *ℤ a) ≡ k *ℤ (m *ℤ a))
    (let e = zero-*ℤ (k *ℤ a) in let x = zero-*ℤ a in let y = zero-*ℤ k in let w = *ℤ_comm k (pos 0) in e ∙ sym (ap (λ (x : ℤ). k *ℤ x) x ∙ w ∙ y))
    (λ n h. suc-mul (pos n) (k *ℤ a) ∙ (let r = mul-add k (pos n *ℤ a) a in ap (λ (x : ℤ). x +ℤ k *ℤ a) h ∙ sym r) ∙ ap (λ (x : ℤ). k *ℤ x) (sym (suc-mul (pos n) a)))
    (λ n h. pred-mul (neg_ℤ (pos n)) (k *ℤ a) ∙ (let r = mul-sub k (neg_ℤ (pos n) *ℤ a) a in ap (λ (x : ℤ). x -ℤ k *ℤ a) h ∙ sym r) ∙ ap (λ (x : ℤ). k *ℤ x) (sym (pred-mul (neg_ℤ (pos n)) a)))
    m

pub nat_abs-add : (a b : ℤ) → nat_abs (a +ℤ b) ≤ nat_abs a + nat_abs b
nat_abs-add a b = grind (arith, ints)

pub nat_abs-neg : (a : ℤ) → nat_abs (neg_ℤ a) ≡ nat_abs a
nat_abs-neg a = grind (arith, ints)

pub mul_le : (a b c d : ℕ) → a ≤ b → c ≤ d → a * c ≤ b * d
mul_le a b c d h k = grind arith

pub one-mul-le : (a b : ℕ) → 1 ≤ a → 1 ≤ b → 1 ≤ a * b
one-mul-le a b h k = mul_le 1 a 1 b h k

pub mul-one : (k : ℤ) → k *ℤ pos 1 ≡ k
mul-one k = *ℤ_comm k (pos 1) ∙ suc-mul (pos 0) k ∙ (let e = zero-*ℤ k in omega (arith, ints))

pub above : (a m b : ℕ) → 1 ≤ a → m ≤ b → m ≤ a * b
above a m b h k = let p = mul_le 1 a m b h k in omega arith

-- products of numbers that stop at a greatest one
min_below : (a b m : ℕ) → min (a * min b m) m ≡ min (a * b) m
min_below zero b m = omega arith
min_below (suc a) b m = elim (cases_lt b m) [
  | inl h ↦ (let e : min b m ≡ b = omega arith in rw e refl)
  | inr h ↦ (let e : min b m ≡ m = omega arith in let p = above (suc a) m m (omega arith) (omega arith) in let q = above (suc a) m b (omega arith) h in rw e (omega arith))
]

pub min_mul : (a b m : ℕ) → min (min a m * min b m) m ≡ min (a * b) m
min_mul a b m = min_below (min a m) b m ∙ ap (λ (x : ℕ). min x m) (mul_comm (min a m) b) ∙ min_below b a m ∙ ap (λ (x : ℕ). min x m) (mul_comm b a)

pub min_add : (a b c m : ℕ) → min (min (min a m + min b m) m + c) m ≡ min (a + b + c) m
min_add a b c m = omega arith

pub min_times : (a b m : ℕ) → a ≤ m → min (a * min b m) m ≡ min (a * b) m
min_times a b m h = min_below a b m
