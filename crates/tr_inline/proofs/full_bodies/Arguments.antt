-- Arguments: those that a body doesn't use don't matter, and the others are part of the instance.
use Rattle.std.proofs.Common.{◌≡◌, ℕ, zero, suc, ◌+◌, ◌-◌, ◌<◌, ◌≤◌, ◌⊎◌, inl, inr, ◌||◌, ◌==◌, max, Bool, true, false, List, [], ◌∷◌, map, length, get_or, subst, refl, sym, ap, ◌∙◌, arith}
use Rattle.std.proofs.lemmas.Bool.Decides.{nat_tests}
use Rattle.trees.specs.Tree.{Tree, Leaf, One, Two, Three, Head, HTyVar, HBound, HParam, binders_over}
use Rattle.trees.specs.Binding.{change, leaf_by, one_by, Bound, shift, instantiating_many, inst_many}
use Rattle.trees.proofs.Above.{types_left}
use Rattle.trees.proofs.Many.{many_below, many_at, many_above, cases_many, length_map}
use Rattle.inlining.specs.images.typing_laws.HasTyping.{HasSorts}
use Rattle.inlining.proofs.images.typing_laws.Sorted.{kinds_only}
use Rattle.inlining.specs.images.Images.{image}
use Rattle.tr_inline.specs.full_bodies.Least.{added, HasLargeInstances, one_used, is_used}
use Rattle.tr_inline.specs.full_bodies.Arguments.{ArePutFor, HasLargeArgument}
use Rattle.tr_inline.proofs.full_bodies.Least.{sum_joins, max_joins, used_least, larger}

-- ---- lists of terms that agree where variables are used
module _ (ts us : List Tree) (same : length ts ≡ length us) where
  abbrev pub Agree : (ℕ → Bool) → Type 0
  Agree used = (i k : ℕ) (y : Tree) → i + k + 1 ≡ length ts → used i ≡ true → get_or ts k y ≡ get_or us k y

  leaf_same : (h : Head) → leaf_by (instantiating_many ts) h ≡ leaf_by (instantiating_many us) h
  leaf_same (HTyVar j) = refl
  leaf_same _ = refl

  bound_same : (d i : ℕ) (x : Tree) → Agree (λ v. i == d + v) → (i < d) ⊎ (((k : ℕ) × ((d ≤ i) × (i + k + 1 ≡ d + length ts))) ⊎ (d + length ts ≤ i))
      → (instantiating_many ts).bound d i x ≡ (instantiating_many us).bound d i x
  bound_same d i x a (inl l) = many_below ts d i x l ∙ sym (many_below us d i x l)
  bound_same d i x a (inr (inl k)) =
      let v : (m : ℕ) × (i ≡ d + m) = (i - d, omega (arith, k.1.0)) in
      let q : (i == d + v.0) ≡ true = grind (arith, nat_tests, v.1) in
      many_at ts d i k.0 x k.1.0 k.1.1 ∙ ap (λ (z : Tree). shift z d 0) (a v.0 k.0 x (omega (arith, v.1, k.1.1)) q) ∙ sym (many_at us d i k.0 x k.1.0 (omega (arith, k.1.1, same)))
  bound_same d i x a (inr (inr l)) =
      many_above ts d i x l ∙ ap (λ (n : ℕ). Bound (i - n) x) same ∙ sym (many_above us d i x (omega (arith, l, same)))

  one_same : (d : ℕ) (h : Head) (a x y : Tree) → HasSorts (One h a) → Agree (λ i. one_used h (d + i) (is_used (d + i) a)) → (Agree (λ i. is_used (d + i) a) → x ≡ y)
      → x ≡ change (instantiating_many ts) d a → y ≡ change (instantiating_many us) d a → one_by (instantiating_many ts) d h x ≡ one_by (instantiating_many us) d h y
  one_same d (HBound i) a x y w g e p q =
      let left : x ≡ a = p ∙ types_left (instantiating_many ts) (λ j. refl) d a (kinds_only a w.1 (inl w.0.0)) in
      let right : y ≡ a = q ∙ types_left (instantiating_many us) (λ j. refl) d a (kinds_only a w.1 (inl w.0.0)) in
      ap ((instantiating_many ts).bound d i) left ∙ bound_same d i a g (cases_many i d (length ts)) ∙ sym (ap ((instantiating_many us).bound d i) right)
  one_same d (HParam n) a x y w g e p q = ap (One (HParam n)) (e g)
  one_same d h a x y w g e p q = ap (One h) (e g)

  or_left : (a b : Bool) → a ≡ true → (a || b) ≡ true
  or_left a b q = rw q refl

  or_right : (a b : Bool) → b ≡ true → (a || b) ≡ true
  or_right true b q = refl
  or_right false b q = q

  pub same_many : (d : ℕ) (e : Tree) → HasSorts e → Agree (λ i. is_used (d + i) e) → change (instantiating_many ts) d e ≡ change (instantiating_many us) d e
  same_many d (Leaf h) w g = leaf_same h
  same_many d (One h a) w g = one_same d h a (change (instantiating_many ts) d a) (change (instantiating_many us) d a) w g (λ m. same_many d a w.1 m) refl refl
  same_many d (Two h a b) w g =
      let u = same_many d a w.1 (λ i k y p q. g i k y p (or_left (is_used (d + i) a) (is_used (d + i + binders_over h a) b) q)) in
      let v = same_many (d + binders_over h a) b w.2 (λ i k y p q.
      let n : d + binders_over h a + i ≡ d + i + binders_over h a = omega arith in
      g i k y p (or_right (is_used (d + i) a) (is_used (d + i + binders_over h a) b) (subst (λ (m : ℕ). is_used m b ≡ true) n q))) in
      cc (u, v)
  same_many d (Three h a b c) w g =
      let u = same_many d a w.1 (λ i k y p q. g i k y p (or_left (is_used (d + i) a) (is_used (d + i) b || is_used (d + i) c) q)) in
      let v = same_many d b w.2 (λ i k y p q. g i k y p (or_right (is_used (d + i) a) (is_used (d + i) b || is_used (d + i) c) (or_left (is_used (d + i) b) (is_used (d + i) c) q))) in
      let m = same_many d c w.3 (λ i k y p q. g i k y p (or_right (is_used (d + i) a) (is_used (d + i) b || is_used (d + i) c) (or_right (is_used (d + i) b) (is_used (d + i) c) q))) in
      cc (u, v, m)

module _ (f : Tree → Tree) (body : Tree) where
  pub as_many : (ms ts : List Tree) → ArePutFor f body ms ts → length ts ≡ length ms
  as_many [] [] a = refl
  as_many (m ∷ ms) (t ∷ ts) a = ap suc (as_many ms ts a.1)
  as_many [] (t ∷ ts) a = absurd a
  as_many (m ∷ ms) [] a = absurd a

  agree_for : (ms ts : List Tree) → ArePutFor f body ms ts → (i k : ℕ) (y : Tree) → i + k + 1 ≡ length ts → is_used i body ≡ true → get_or ts k y ≡ get_or (map (image f) ms) k y
  agree_for [] [] a i k y p u = refl
  agree_for (m ∷ ms) (t ∷ ts) a i zero y p u =
      let n : i ≡ length ms = omega (arith, p, as_many ms ts a.1) in
      a.0 (subst (λ (v : ℕ). is_used v body ≡ true) n u)
  agree_for (m ∷ ms) (t ∷ ts) a i (suc k) y p u = agree_for ms ts a.1 i k y (omega (arith, p)) u
  agree_for [] (t ∷ ts) a i k y p u = absurd a
  agree_for (m ∷ ms) [] a i k y p u = absurd a

  -- what is put in for arguments gives what their images do
  pub put_for : HasSorts body → (ms ts : List Tree) → ArePutFor f body ms ts → inst_many body ts ≡ inst_many body (map (image f) ms)
  put_for w ms ts a =
      same_many ts (map (image f) ms) (as_many ms ts a ∙ sym (length_map (image f) ms)) 0 body w
      (λ i k y p u. let n : 0 + i ≡ i = omega arith in agree_for ms ts a i k y p (subst (λ (m : ℕ). is_used m body ≡ true) n u))

  -- a large image of an argument, whose variable is used
  record IsLargeArgument (ms : List Tree) : Type 0 where
    number : ℕ
    place : ℕ
    count : place + number + 1 ≡ length ms
    used : is_used place body ≡ true
    term : Tree
    there : (y : Tree) → get_or (map (image f) ms) number y ≡ term
    large : HasLargeInstances term

  large_argument : (ms : List Tree) → HasLargeArgument f body ms → IsLargeArgument ms
  large_argument [] l = absurd l
  large_argument (m ∷ ms) (inl l) = record { number = 0; place = length ms; count = omega arith; used = l.0; term = image f m; there = λ y. refl; large = l.1 }
  large_argument (m ∷ ms) (inr l) =
      let r = large_argument ms l in
      record { number = suc r.number; place = r.place; count = omega (arith, r.count); used = r.used; term = r.term; there = λ y. r.there y; large = r.large }

  pub large_put : (ms : List Tree) → HasLargeArgument f body ms → HasLargeInstances (inst_many body (map (image f) ms))
  large_put ms l =
      let r = large_argument ms l in
      let place : r.place + r.number + 1 ≡ length (map (image f) ms) = omega (arith, r.count, length_map (image f) ms) in
      let n : r.place ≡ 0 + r.place = omega arith in
      let used : is_used (0 + r.place) body ≡ true = subst (λ (m : ℕ). is_used m body ≡ true) n r.used in
      larger r.term (inst_many body (map (image f) ms))
      (used_least added sum_joins (map (image f) ms) r.place r.number place r.term r.there 0 body used)
      (used_least max max_joins (map (image f) ms) r.place r.number place r.term r.there 0 body used) r.large
