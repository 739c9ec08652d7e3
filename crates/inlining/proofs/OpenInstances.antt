-- Open terms put in, and a change of variables after that: the terms are changed, if the tree has no other open variables.
use Rattle.std.proofs.Common.{◌≡◌, ℕ, ◌+◌, ◌-◌, ◌<◌, ◌≤◌, ◌⊎◌, inl, inr, List, map, length, get_or, refl, sym, ap, ◌∙◌, arith}
use Rattle.std.proofs.lemmas.Bool.{cases_lt}
use Rattle.std.proofs.lemmas.Bool.Decides.{nat_tests}
use Rattle.tasks.specs.trees.Tree.{Tree, Leaf, One, Two, Three, Head, HTyVar, HBound, HParam, loose, binders_over}
use Rattle.tasks.specs.trees.Binding.{Change, change, leaf_by, one_by, Bound, Param, shifting, shift, instantiating_many, inst_many, AreNoPatterns}
use Rattle.tasks.specs.trees.laws.Changes.{Keeps, binders_over-change, PutsTerms, Square, square, one_loose_le}
use Rattle.tasks.specs.trees.laws.Indices.{shifted, shift_below, shift_above}
use Rattle.trees.proofs.Laws.{puts_shifting, keeps_shifting}
use Rattle.trees.proofs.Many.{Then, change_change, many_below, many_at, many_above, cases_many, puts_many, keeps_many, default_at, mapped_at, length_map}

-- a shift of what was shifted by at least as much: by both at once
pub shift_more : (b c q : ℕ) (t : Tree) → q ≤ b → change (shifting c 0) q (shift t b 0) ≡ shift t (b + c) 0
shift_more b c q t l =
    change_change 0 q 0 (shifting b 0) (shifting c 0) (shifting (b + c) 0) both (puts_shifting b 0) 0 0 q 0 (omega arith) (omega arith) (omega arith) t
  where
    both : Then 0 q 0 (shifting b 0) (shifting c 0) (shifting (b + c) 0)
    both = record {
      bound = λ a m n r i u v w x y h. let k : shifted c 0 n (shifted b 0 m i) ≡ shifted (b + c) 0 r i = grind (arith, nat_tests) in cc (k, h);
      param = λ a m n r i u v w x y h. ap (Param i) h;
      ty_var = λ n j. refl;
    }

-- a change that goes past the binders around a term
pub record IsNatural (g : Change) : Type 0 where
  pub keeps : Keeps g
  pub shifted : (d c p : ℕ) (t : Tree) → p ≡ d + c → change g p (shift t c 0) ≡ shift (change g d t) c 0

module _ (g : Change) (natural : IsNatural g) (ts : List Tree) (terms : AreNoPatterns ts) (d : ℕ) where
  changed_terms : List Tree
  changed_terms = map (change g d) ts

  leaf_stays : (h : Head) → leaf_by g h ≡ Leaf h
  leaf_stays (HTyVar j) = natural.keeps.ty_var j
  leaf_stays _ = refl

  leaf_many : (us : List Tree) (h : Head) → leaf_by (instantiating_many us) h ≡ Leaf h
  leaf_many us (HTyVar j) = refl
  leaf_many us _ = refl

  bound_after : (c p i : ℕ) (x y : Tree) → p ≡ d + c → i + 1 ≤ c + length ts → change g p x ≡ y
      → (i < c) ⊎ (((k : ℕ) × ((c ≤ i) × (i + k + 1 ≡ c + length ts))) ⊎ (c + length ts ≤ i))
      → change g p ((instantiating_many ts).bound c i x) ≡ (instantiating_many (map (change g d) ts)).bound c i y
  bound_after c p i x y q l e (inl m) =
      ap (change g p) (many_below ts c i x m) ∙ natural.keeps.bound p i (change g p x) (omega arith) ∙ ap (Bound i) e ∙ sym (many_below (map (change g d) ts) c i y m)
  bound_after c p i x y q l e (inr (inl k)) =
      let n : length (map (change g d) ts) ≡ length ts = length_map (change g d) ts in
      let h : k.0 < length ts = omega (arith, k.1.0, k.1.1) in
      ap (change g p) (many_at ts c i k.0 x k.1.0 k.1.1) ∙ natural.shifted d c p (get_or ts k.0 x) q
      ∙ ap (λ (z : Tree). shift z c 0) (sym (mapped_at (change g d) ts k.0 y x h)) ∙ sym (many_at (map (change g d) ts) c i k.0 y k.1.0 (omega (arith, k.1.1, n)))
  bound_after c p i x y q l e (inr (inr m)) = absurd (omega arith)

  one_after : (c p : ℕ) (h : Head) (a : Tree) → p ≡ d + c → loose (One h a) ≤ c + length ts → change g p (change (instantiating_many ts) c a) ≡ change (instantiating_many (map (change g d) ts)) c a
      → change g p (change (instantiating_many ts) c (One h a)) ≡ change (instantiating_many (map (change g d) ts)) c (One h a)
  one_after c p (HBound i) a q l e = bound_after c p i (change (instantiating_many ts) c a) (change (instantiating_many (map (change g d) ts)) c a) q (omega arith) e (cases_many i c (length ts))
  one_after c p (HParam n) a q l e = natural.keeps.param p n (change g p (change (instantiating_many ts) c a)) ∙ ap (Param n) e
  one_after c p h a q l e = ap (One h) e

  many_then : (c p : ℕ) (e : Tree) → p ≡ d + c → loose e ≤ c + length ts → change g p (change (instantiating_many ts) c e) ≡ change (instantiating_many (map (change g d) ts)) c e
  many_then c p (Leaf h) q l = ap (change g p) (leaf_many ts h) ∙ leaf_stays h ∙ sym (leaf_many (map (change g d) ts) h)
  many_then c p (One h a) q l = one_after c p h a q l (many_then c p a q (one_loose_le h (loose a) (c + length ts) l))
  many_then c p (Two h a b) q l =
      let n : binders_over h (change (instantiating_many ts) c a) ≡ binders_over h a = binders_over-change (instantiating_many ts) (puts_many ts terms) c h a in
      let u = many_then c p a q (omega arith) in
      let v = many_then (c + binders_over h a) (p + binders_over h (change (instantiating_many ts) c a)) b (omega (arith, n)) (omega arith) in
      cc (u, v)
  many_then c p (Three h a b k) q l =
      let u = many_then c p a q (omega arith) in
      let v = many_then c p b q (omega arith) in
      let w = many_then c p k q (omega arith) in
      cc (u, v, w)

  pub many_changed : (e : Tree) → loose e ≤ length ts → change g d (inst_many e ts) ≡ inst_many e (map (change g d) ts)
  many_changed e l = many_then 0 d e (omega arith) (omega arith)

-- ---- what goes past the binders around a term
-- the same change, so many binders further down
abbrev deep : Change → ℕ → Change
deep g d = record { bound = λ a i ty. g.bound (d + a) i ty; param = λ a n ty. g.param (d + a) n ty; ty_var = g.ty_var }

module _ (g : Change) (d : ℕ) where
  deep_leaf : (h : Head) → leaf_by (deep g d) h ≡ leaf_by g h
  deep_leaf (HTyVar j) = refl
  deep_leaf _ = refl

  deep_one : (a b : ℕ) (h : Head) (x y : Tree) → b ≡ d + a → x ≡ y → one_by (deep g d) a h x ≡ one_by g b h y
  deep_one a b (HBound i) x y q e = ap (g.bound (d + a) i) e ∙ ap (λ (m : ℕ). g.bound m i y) (sym q)
  deep_one a b (HParam n) x y q e = ap (g.param (d + a) n) e ∙ ap (λ (m : ℕ). g.param m n y) (sym q)
  deep_one a b h x y q e = ap (One h) e

  deep_is : (a b : ℕ) (e : Tree) → b ≡ d + a → change (deep g d) a e ≡ change g b e
  deep_is a b (Leaf h) q = deep_leaf h
  deep_is a b (One h x) q = deep_one a b h (change (deep g d) a x) (change g b x) q (deep_is a b x q)
  deep_is a b (Two h x y) q = let u = deep_is a b x q in let v = deep_is (a + binders_over h x) (b + binders_over h x) y (omega (arith, q)) in cc (u, v)
  deep_is a b (Three h x y z) q = let u = deep_is a b x q in let v = deep_is a b y q in let w = deep_is a b z q in cc (u, v, w)

deep_puts : (g : Change) (d : ℕ) → PutsTerms g → PutsTerms (deep g d)
deep_puts g d w = record { bound = λ a i ty. w.bound (d + a) i ty; param = λ a n ty. w.param (d + a) n ty; ty_var = w.ty_var }

module _ (g : Change) (puts : PutsTerms g) (keeps : Keeps g) (d c : ℕ)
    (bound : (a p q i : ℕ) → p ≡ a + (d + c) → q ≡ a + 0 → (x y : Tree) → change g p x ≡ change (shifting c 0) q y → change g p ((shifting c 0).bound a i x) ≡ change (shifting c 0) q (g.bound (d + a) i y)) where
  past : (p : ℕ) (t : Tree) → p ≡ d + c → change g p (shift t c 0) ≡ shift (change g d t) c 0
  past p t q =
      square (d + c) 0 (shifting c 0) g (deep g d) (shifting c 0) s (puts_shifting c 0) (deep_puts g d puts) 0 p 0 (omega (arith, q)) (omega arith) t
      ∙ ap (change (shifting c 0) 0) (deep_is g d 0 d t (omega arith))
    where
      s : Square (d + c) 0 (shifting c 0) g (deep g d) (shifting c 0)
      s = record {
        bound = λ a m n i u v x y e. bound a m n i u v x y e;
        param = λ a m n i u v x y e. keeps.param m i (change g m x) ∙ ap (Param i) e ∙ sym (ap (change (shifting c 0) n) (keeps.param (d + a) i y));
        ty_var = λ m n j. keeps.ty_var j ∙ sym (ap (change (shifting c 0) n) (keeps.ty_var j));
      }

pub shifting_natural : (up from : ℕ) → IsNatural (shifting up from)
shifting_natural up from = record {
  keeps = keeps_shifting up from;
  shifted = λ d c p t q. past (shifting up from) (puts_shifting up from) (keeps_shifting up from) d c
      (λ a m n i u v x y e. let k : shifted up from m (shifted c 0 a i) ≡ shifted c 0 n (shifted up from (d + a) i) = grind (arith, nat_tests) in cc (k, e)) p t q;
}

module _ (us : List Tree) (terms : AreNoPatterns us) where
  many_past : (d c a p q i : ℕ) → p ≡ a + (d + c) → q ≡ a + 0 → (x y : Tree) → change (instantiating_many us) p x ≡ change (shifting c 0) q y
      → (i < a) ⊎ (a ≤ i) → (i < d + a) ⊎ (((k : ℕ) × ((d + a ≤ i) × (i + k + 1 ≡ (d + a) + length us))) ⊎ ((d + a) + length us ≤ i))
      → change (instantiating_many us) p ((shifting c 0).bound a i x) ≡ change (shifting c 0) q ((instantiating_many us).bound (d + a) i y)
  many_past d c a p q i u v x y e (inl l) r =
      ap (λ j. change (instantiating_many us) p (Bound j x)) (shift_below c 0 a i (omega arith)) ∙ many_below us p i (change (instantiating_many us) p x) (omega arith)
      ∙ cc (e, shift_below c 0 q i (omega arith)) ∙ ap (change (shifting c 0) q) (sym (many_below us (d + a) i y (omega arith)))
  many_past d c a p q i u v x y e (inr l) (inl r) =
      ap (λ j. change (instantiating_many us) p (Bound j x)) (shift_above c 0 a i (omega arith)) ∙ many_below us p (i + c) (change (instantiating_many us) p x) (omega arith)
      ∙ cc (e, shift_above c 0 q i (omega arith)) ∙ ap (change (shifting c 0) q) (sym (many_below us (d + a) i y r))
  many_past d c a p q i u v x y e (inr l) (inr (inl k)) =
      let h : k.0 < length us = omega (arith, k.1.0, k.1.1) in
      let n : p ≡ d + a + c = omega arith in
      ap (λ j. change (instantiating_many us) p (Bound j x)) (shift_above c 0 a i (omega arith))
      ∙ many_at us p (i + c) k.0 (change (instantiating_many us) p x) (omega (arith, k.1.0)) (omega (arith, k.1.1))
      ∙ ap (λ (z : Tree). shift z p 0) (default_at us k.0 (change (instantiating_many us) p x) y h) ∙ ap (λ (j : ℕ). shift (get_or us k.0 y) j 0) n
      ∙ sym (shift_more (d + a) c q (get_or us k.0 y) (omega arith)) ∙ ap (change (shifting c 0) q) (sym (many_at us (d + a) i k.0 y k.1.0 k.1.1))
  many_past d c a p q i u v x y e (inr l) (inr (inr m)) =
      let j : i + c - length us ≡ i - length us + c = omega arith in
      ap (λ j. change (instantiating_many us) p (Bound j x)) (shift_above c 0 a i (omega arith)) ∙ many_above us p (i + c) (change (instantiating_many us) p x) (omega arith)
      ∙ cc (j, e, shift_above c 0 q (i - length us) (omega arith)) ∙ ap (change (shifting c 0) q) (sym (many_above us (d + a) i y m))

  pub many_natural : IsNatural (instantiating_many us)
  many_natural = record {
    keeps = keeps_many us;
    shifted = λ d c p t q. past (instantiating_many us) (puts_many us terms) (keeps_many us) d c (λ a m n i u v x y e. many_past d c a m n i u v x y e (cases_lt i a) (cases_many i (d + a) (length us))) p t q;
  }
