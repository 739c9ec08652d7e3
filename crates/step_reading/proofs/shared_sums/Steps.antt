-- What one step changes of what is pending.
use Rattle.std.proofs.Common.{◌≡◌, ℕ, Bool, true, false, List, [], ◌∷◌, ◌++◌, Option, Some, None, IfSome, refl, sym, ap, subst, ◌∙◌, arith}
use Rattle.std.proofs.Math.IntN.{ℤ, pos, ◌+ℤ◌, ◌-ℤ◌, ◌*ℤ◌, neg_ℤ, *ℤ_comm, zero-*ℤ}
use Rattle.std.proofs.lemmas.Int.{ints}
use Rattle.trees.specs.Tree.{Tree}
use Rattle.trees.specs.declared.ints.Ints.{Ints}
use Rattle.linear_leaf.specs.Linear.{Sum, atom, product_by, both_have, has_any, reading, zeros}
use Rattle.linear_leaf.proofs.Integers.{mul-add, mul-swap}
use Rattle.linear_leaf.proofs.Same.{same}
use Rattle.step_reading.specs.declared.shared_sums.pending.Pending.{Pending}
use Rattle.step_reading.specs.shared_sums.Known.{IsInteger}
use Rattle.step_reading.specs.shared_sums.Pending.{weighed, value_at, IsSum, IsProduct, Carries, IsFlat, Differs}
use Rattle.step_reading.proofs.shared_sums.Sums.{add-mul, weighed_last}

pub carries_flat : (z : Ints) (s : List Tree) (p q r : Pending) → Carries z s p q → IsFlat z s q r → IsFlat z s p r
carries_flat z s p q r h k v n e = k v n (h v n e)

pub carries_differs : (z : Ints) (s : List Tree) (p q r : Pending) → Carries z s p q → Differs z s q r → Differs z s p r
carries_differs z s p q r h k = record { one = k.one; other = k.other; apart = λ m n a b. k.apart m n (h k.one m a) (h k.other n b) }

-- a multiple added to what was there
pub put_sum : (o : Option ℤ) (fk wo wm wn b s x y : ℤ) → IfSome o (λ c. c +ℤ wo ≡ x) → wm +ℤ b *ℤ fk ≡ wo → s ≡ b +ℤ y → wn ≡ wm +ℤ s *ℤ fk → IfSome o (λ c. c +ℤ wn ≡ x +ℤ y *ℤ fk)
put_sum None fk wo wm wn b s x y h g e k = tt
put_sum (Some c) fk wo wm wn b s x y h g e k = let r = add-mul b y fk in let t : s *ℤ fk ≡ (b +ℤ y) *ℤ fk = ap (λ (i : ℤ). i *ℤ fk) e in omega (arith, ints)

-- the same sum, spelled in another way
pub sum_as : (f : ℕ → ℤ) (p : Pending) (x y : ℤ) → x ≡ y → IsSum f p x → IsSum f p y
sum_as f p x y e h = subst (λ (i : ℤ). IsSum f p i) e h

pub neg-times : (n a : ℤ) → neg_ℤ n *ℤ a ≡ neg_ℤ (n *ℤ a)
neg-times n a = grind (arith, ints)

times-neg : (n a : ℤ) → n *ℤ neg_ℤ a ≡ neg_ℤ (n *ℤ a)
times-neg n a = grind (arith, ints)

pub negated_is : (x n a : ℤ) → x +ℤ neg_ℤ n *ℤ a ≡ x +ℤ n *ℤ neg_ℤ a
negated_is x n a = let e = neg-times n a in let h = times-neg n a in omega (arith, ints)

pub plus_is : (x n a b : ℤ) → (x +ℤ n *ℤ a) +ℤ n *ℤ b ≡ x +ℤ n *ℤ (a +ℤ b)
plus_is x n a b = let e = mul-add n a b in omega (arith, ints)

pub minus_is : (x n a b : ℤ) → (x +ℤ n *ℤ a) +ℤ neg_ℤ n *ℤ b ≡ x +ℤ n *ℤ (a +ℤ neg_ℤ b)
minus_is x n a b = let e = mul-add n a (neg_ℤ b) in let h = neg-times n b in let k = times-neg n b in omega (arith, ints)

thrice : (a n b : ℤ) → (a *ℤ n) *ℤ b ≡ n *ℤ (a *ℤ b)
thrice a n b = *ℤ_comm (a *ℤ n) b ∙ mul-swap b a n ∙ ap (λ (i : ℤ). a *ℤ i) (*ℤ_comm b n) ∙ mul-swap a n b

none : (xs : List Tree) → has_any xs ≡ false → xs ≡ []
none [] h = refl
none (x ∷ xs) h = absurd (cc h)

both_none : (xs : List Tree) → both_have xs [] ≡ false
both_none [] = refl
both_none (x ∷ xs) = refl

module _ (z : Ints) (v : Tree → ℤ) (t a b : Tree) (p : IsProduct z t a b) where
  value_by : (c : Bool) → both_have (reading z v a).atoms (reading z v b).atoms ≡ c → reading z v t ≡ product_by v c t (reading z v a) (reading z v b)
  value_by c h = p v ∙ ap (λ (x : Bool). product_by v x t (reading z v a) (reading z v b)) h

  left_value : has_any (reading z zeros a).atoms ≡ false → (reading z v t).value ≡ (reading z zeros a).value *ℤ (reading z v b).value
  left_value h =
      let s = same z zeros v a in
      let n = none (reading z zeros a).atoms h in
      let e : (reading z v a).atoms ≡ [] = sym s.atoms ∙ n in
      let q : both_have (reading z v a).atoms (reading z v b).atoms ≡ false = ap (λ (xs : List Tree). both_have xs (reading z v b).atoms) e in
      ap (λ (r : Sum). r.value) (value_by false q) ∙ ap (λ (x : ℤ). x *ℤ (reading z v b).value) (sym (s.fixed n))

  right_value : has_any (reading z zeros b).atoms ≡ false → (reading z v t).value ≡ (reading z v a).value *ℤ (reading z zeros b).value
  right_value h =
      let s = same z zeros v b in
      let n = none (reading z zeros b).atoms h in
      let e : (reading z v b).atoms ≡ [] = sym s.atoms ∙ n in
      let q : both_have (reading z v a).atoms (reading z v b).atoms ≡ false = ap (λ (xs : List Tree). both_have (reading z v a).atoms xs) e ∙ both_none (reading z v a).atoms in
      ap (λ (r : Sum). r.value) (value_by false q) ∙ ap (λ (x : ℤ). (reading z v a).value *ℤ x) (sym (s.fixed n))

  pub left_is : has_any (reading z zeros a).atoms ≡ false → (x n : ℤ) → x +ℤ ((reading z zeros a).value *ℤ n) *ℤ (reading z v b).value ≡ x +ℤ n *ℤ (reading z v t).value
  left_is h x n = ap (λ (i : ℤ). x +ℤ i) (thrice (reading z zeros a).value n (reading z v b).value ∙ ap (λ (i : ℤ). n *ℤ i) (sym (left_value h)))

  pub right_is : has_any (reading z zeros b).atoms ≡ false → (x n : ℤ) → x +ℤ ((reading z zeros b).value *ℤ n) *ℤ (reading z v a).value ≡ x +ℤ n *ℤ (reading z v t).value
  right_is h x n = ap (λ (i : ℤ). x +ℤ i) (thrice (reading z zeros b).value n (reading z v a).value ∙ ap (λ (i : ℤ). n *ℤ i) (*ℤ_comm (reading z zeros b).value (reading z v a).value ∙ sym (right_value h)))

  pub atom_is : has_any (reading z zeros a).atoms ≡ true → has_any (reading z zeros b).atoms ≡ true → reading z v t ≡ atom v t
  atom_is h k =
      let m = (same z zeros v a).atoms in let n = (same z zeros v b).atoms in
      let q : both_have (reading z v a).atoms (reading z v b).atoms ≡ true = rw (← m, ← n, h, k) refl in value_by true q

-- the greatest multiple taken away, and its part added again
less : (o : Option ℤ) (wo wr t x : ℤ) → IfSome o (λ c. c +ℤ wo ≡ x) → wo ≡ wr +ℤ t → IfSome o (λ c. c +ℤ wr ≡ x +ℤ neg_ℤ t)
less None wo wr t x h e = tt
less (Some c) wo wr t x h e = omega (arith, ints)

again : (x t : ℤ) → (x +ℤ neg_ℤ t) +ℤ t ≡ x
again x t = omega (arith, ints)

module _ (z : Ints) (s : List Tree) (p m : Pending) (e : ℕ × ℤ) (last : p.multiples.entries ≡ m.multiples.entries ++ e ∷ []) (same_constant : m.constant ≡ p.constant) where
  without : (v : Tree → ℤ) (x : ℤ) → IsSum (value_at z s v) p x → IsSum (value_at z s v) m (x +ℤ neg_ℤ (e.1 *ℤ value_at z s v e.0))
  without v x h =
      let w : weighed (value_at z s v) p.multiples.entries ≡ weighed (value_at z s v) m.multiples.entries +ℤ e.1 *ℤ value_at z s v e.0 = ap (weighed (value_at z s v)) last ∙ weighed_last (value_at z s v) m.multiples.entries e in
      let g = less p.constant (weighed (value_at z s v) p.multiples.entries) (weighed (value_at z s v) m.multiples.entries) (e.1 *ℤ value_at z s v e.0) x h w in
      subst (λ (o : Option ℤ). IfSome o (λ c. c +ℤ weighed (value_at z s v) m.multiples.entries ≡ x +ℤ neg_ℤ (e.1 *ℤ value_at z s v e.0))) (sym same_constant) g

  pub carries_next : (q : Pending) → ((v : Tree → ℤ) (x : ℤ) → IsSum (value_at z s v) m x → IsSum (value_at z s v) q (x +ℤ e.1 *ℤ value_at z s v e.0)) → Carries z s p q
  carries_next q g v x h = sum_as (value_at z s v) q _ x (again x (e.1 *ℤ value_at z s v e.0)) (g v _ (without v x h))

  pub carries_zero : e.1 ≡ pos 0 → Carries z s p m
  carries_zero n v x h =
      let t : e.1 *ℤ value_at z s v e.0 ≡ pos 0 = ap (λ (i : ℤ). i *ℤ value_at z s v e.0) n ∙ zero-*ℤ (value_at z s v e.0) in
      let y : x +ℤ neg_ℤ (e.1 *ℤ value_at z s v e.0) ≡ x = omega (arith, ints) in sum_as (value_at z s v) m _ x y (without v x h)

-- a constant added
is_less : (o : Option ℤ) (w x : ℤ) → IfSome o (λ c. c +ℤ w ≡ x) → IsInteger (x -ℤ w) o
is_less None w x h = tt
is_less (Some c) w x h = omega (arith, ints)

pub constant_more : (o r : Option ℤ) (w x y : ℤ) → ((m : ℤ) → IsInteger m o → IsInteger (m +ℤ y) r) → IfSome o (λ c. c +ℤ w ≡ x) → IfSome r (λ c. c +ℤ w ≡ x +ℤ y)
constant_more o None w x y g h = tt
constant_more o (Some v) w x y g h = let e : v ≡ (x -ℤ w) +ℤ y = g (x -ℤ w) (is_less o w x h) in omega (arith, ints)
