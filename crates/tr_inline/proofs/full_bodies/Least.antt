-- No instance of a tree has fewer nodes, or is lower, than the least; and a term that is put in for a used variable is part of it.
use Rattle.std.proofs.Common.{◌≡◌, ℕ, ◌+◌, ◌≤◌, ◌⊎◌, inl, inr, ◌||◌, max, Bool, true, false, List, length, get_or, subst, refl, sym, ap, ◌∙◌, arith}
use Rattle.std.proofs.lemmas.Bool.Decides.{nat_tests}
use Rattle.trees.specs.Tree.{Tree, Leaf, One, Two, Three, Head, HTyVar, HBound, HParam, binders_over, size, height}
use Rattle.trees.specs.Binding.{Change, change, leaf_by, one_by, Param, shifting, shift, typing, inst_types, instantiating_many, inst_many}
use Rattle.trees.proofs.Many.{many_at}
use Rattle.tr_inline.specs.full_bodies.Least.{one_least, least_by, added, least_size, least_height, HasLargeInstances, one_used, is_used}

-- an operation that joins numbers to no lesser one, and rises with both
pub record IsJoin (j : ℕ → ℕ → ℕ) : Type 0 where
  pub rises : (a b x y : ℕ) → a ≤ x → b ≤ y → j a b ≤ j x y
  pub left : (a b : ℕ) → a ≤ j a b
  pub right : (a b : ℕ) → b ≤ j a b

pub sum_joins : IsJoin added
sum_joins = record { rises = λ a b x y l m. omega (arith, l, m); left = λ a b. omega arith; right = λ a b. omega arith }

pub max_joins : IsJoin max
max_joins = record { rises = λ a b x y l m. omega (arith, l, m); left = λ a b. omega arith; right = λ a b. omega arith }

one_some : (h : Head) (n : ℕ) → 1 ≤ one_least h n
one_some (HBound i) n = omega arith
one_some _ n = omega arith

module _ (j : ℕ → ℕ → ℕ) where
  pub some_least : (e : Tree) → 1 ≤ least_by j e
  some_least (Leaf h) = omega arith
  some_least (One h a) = one_some h (least_by j a)
  some_least (Two h a b) = omega arith
  some_least (Three h a b c) = omega arith

  one_shift : (up from d : ℕ) (h : Head) (x : Tree) → least_by j (one_by (shifting up from) d h x) ≡ one_least h (least_by j x)
  one_shift up from d (HBound i) x = refl
  one_shift up from d (HParam n) x = refl
  one_shift up from d _ x = refl

  leaf_shift : (up from : ℕ) (h : Head) → least_by j (leaf_by (shifting up from) h) ≡ 1
  leaf_shift up from (HTyVar k) = refl
  leaf_shift up from _ = refl

  -- a shift changes nothing
  pub least_shift : (up from d : ℕ) (e : Tree) → least_by j (change (shifting up from) d e) ≡ least_by j e
  least_shift up from d (Leaf h) = leaf_shift up from h
  least_shift up from d (One h a) = one_shift up from d h (change (shifting up from) d a) ∙ ap (one_least h) (least_shift up from d a)
  least_shift up from d (Two h a b) =
      ap (λ (m : ℕ). j m (least_by j (change (shifting up from) (d + binders_over h a) b)) + 1) (least_shift up from d a)
      ∙ ap (λ (m : ℕ). j (least_by j a) m + 1) (least_shift up from (d + binders_over h a) b)
  least_shift up from d (Three h a b c) =
      ap (λ (m : ℕ). j m (j (least_by j (change (shifting up from) d b)) (least_by j (change (shifting up from) d c))) + 1) (least_shift up from d a)
      ∙ ap (λ (m : ℕ). j (least_by j a) (j m (least_by j (change (shifting up from) d c))) + 1) (least_shift up from d b)
      ∙ ap (λ (m : ℕ). j (least_by j a) (j (least_by j b) m) + 1) (least_shift up from d c)

  module _ (is : IsJoin j) where
    -- ---- changes that leave parameters
    module _ (f : Change) (param : (d n : ℕ) (x : Tree) → f.param d n x ≡ Param n x) where
      one_rises : (d : ℕ) (h : Head) (x : Tree) (n : ℕ) → n ≤ least_by j x → one_least h n ≤ least_by j (one_by f d h x)
      one_rises d (HBound i) x n l = some_least (f.bound d i x)
      one_rises d (HParam k) x n l = subst (λ (z : Tree). n + 1 ≤ least_by j z) (sym (param d k x)) (omega (arith, l))
      one_rises d _ x n l = omega (arith, l)

      leaf_rises : (h : Head) → 1 ≤ least_by j (leaf_by f h)
      leaf_rises h = some_least (leaf_by f h)

      pub least_rises : (d : ℕ) (e : Tree) → least_by j e ≤ least_by j (change f d e)
      least_rises d (Leaf h) = leaf_rises h
      least_rises d (One h a) = one_rises d h (change f d a) (least_by j a) (least_rises d a)
      least_rises d (Two h a b) = omega (arith, is.rises _ _ _ _ (least_rises d a) (least_rises (d + binders_over h a) b))
      least_rises d (Three h a b c) = omega (arith, is.rises _ _ _ _ (least_rises d a) (is.rises _ _ _ _ (least_rises d b) (least_rises d c)))

    pub least_types : (e : Tree) (zs : List Tree) → least_by j e ≤ least_by j (inst_types e zs)
    least_types e zs = least_rises (typing zs) (λ d n x. refl) 0 e

    pub least_many : (e : Tree) (ts : List Tree) → least_by j e ≤ least_by j (inst_many e ts)
    least_many e ts = least_rises (instantiating_many ts) (λ d n x. refl) 0 e

    -- ---- a term for a used variable
    module _ (ts : List Tree) (v k : ℕ) (place : v + k + 1 ≡ length ts) (t : Tree) (there : (y : Tree) → get_or ts k y ≡ t) where
      one_holds : (d : ℕ) (h : Head) (x : Tree) (u : Bool) → one_used h (d + v) u ≡ true → (u ≡ true → least_by j t ≤ least_by j x) → least_by j t ≤ least_by j (one_by (instantiating_many ts) d h x)
      one_holds d (HBound i) x u q l =
          let n : i ≡ d + v = grind (arith, nat_tests, q) in
          let e : (instantiating_many ts).bound d i x ≡ shift t d 0 = many_at ts d i k x (omega (arith, n)) (omega (arith, n, place)) ∙ ap (λ (z : Tree). shift z d 0) (there x) in
          subst (λ (z : Tree). least_by j t ≤ least_by j z) (sym e) (omega (arith, least_shift d 0 0 t))
      one_holds d (HParam n) x u q l = omega (arith, l q)
      one_holds d _ x u q l = omega (arith, l q)

      two_ways : (a b : Bool) → (a || b) ≡ true → (a ≡ true) ⊎ (b ≡ true)
      two_ways true b q = inl refl
      two_ways false b q = inr q

      pub used_least : (d : ℕ) (e : Tree) → is_used (d + v) e ≡ true → least_by j t ≤ least_by j (change (instantiating_many ts) d e)
      used_least d (Leaf h) q = absurd (cc)
      used_least d (One h a) q = one_holds d h (change (instantiating_many ts) d a) (is_used (d + v) a) q (λ p. used_least d a p)
      used_least d (Two h a b) q =
          let n : d + v + binders_over h a ≡ d + binders_over h a + v = omega arith in
          in_two (least_by j (change (instantiating_many ts) d a)) (least_by j (change (instantiating_many ts) (d + binders_over h a) b))
          (two_ways (is_used (d + v) a) (is_used (d + v + binders_over h a) b) q) (used_least d a) (λ p. used_least (d + binders_over h a) b (subst (λ (m : ℕ). is_used m b ≡ true) n p))
        where
          in_two : (x y : ℕ) → (is_used (d + v) a ≡ true) ⊎ (is_used (d + v + binders_over h a) b ≡ true) → (is_used (d + v) a ≡ true → least_by j t ≤ x) → (is_used (d + v + binders_over h a) b ≡ true → least_by j t ≤ y)
              → least_by j t ≤ j x y + 1
          in_two x y (inl p) f g = omega (arith, f p, is.left x y)
          in_two x y (inr p) f g = omega (arith, g p, is.right x y)
      used_least d (Three h a b c) q =
          in_three (least_by j (change (instantiating_many ts) d a)) (least_by j (change (instantiating_many ts) d b)) (least_by j (change (instantiating_many ts) d c))
          (two_ways (is_used (d + v) a) (is_used (d + v) b || is_used (d + v) c) q) (used_least d a) (used_least d b) (used_least d c)
        where
          in_three : (x y z : ℕ) → (is_used (d + v) a ≡ true) ⊎ ((is_used (d + v) b || is_used (d + v) c) ≡ true) → (is_used (d + v) a ≡ true → least_by j t ≤ x) → (is_used (d + v) b ≡ true → least_by j t ≤ y)
              → (is_used (d + v) c ≡ true → least_by j t ≤ z) → least_by j t ≤ j x (j y z) + 1
          in_three x y z (inl p) f g k = omega (arith, f p, is.left x (j y z))
          in_three x y z (inr p) f g k = within (two_ways (is_used (d + v) b) (is_used (d + v) c) p)
            where
              within : (is_used (d + v) b ≡ true) ⊎ (is_used (d + v) c ≡ true) → least_by j t ≤ j x (j y z) + 1
              within (inl r) = omega (arith, g r, is.left y z, is.right x (j y z))
              within (inr r) = omega (arith, k r, is.right y z, is.right x (j y z))

    -- ---- parts
    pub two_first : (h : Head) (a b : Tree) → least_by j a ≤ least_by j (Two h a b)
    two_first h a b = omega (arith, is.left (least_by j a) (least_by j b))

    pub two_second : (h : Head) (a b : Tree) → least_by j b ≤ least_by j (Two h a b)
    two_second h a b = omega (arith, is.right (least_by j a) (least_by j b))

    pub three_first : (h : Head) (a b c : Tree) → least_by j a ≤ least_by j (Three h a b c)
    three_first h a b c = omega (arith, is.left (least_by j a) (j (least_by j b) (least_by j c)))

    pub three_second : (h : Head) (a b c : Tree) → least_by j b ≤ least_by j (Three h a b c)
    three_second h a b c = omega (arith, is.right (least_by j a) (j (least_by j b) (least_by j c)), is.left (least_by j b) (least_by j c))

    pub three_third : (h : Head) (a b c : Tree) → least_by j c ≤ least_by j (Three h a b c)
    three_third h a b c = omega (arith, is.right (least_by j a) (j (least_by j b) (least_by j c)), is.right (least_by j b) (least_by j c))

-- ---- the least is no more than the tree itself has
one_at_most : (h : Head) (n m : ℕ) → n ≤ m → one_least h n ≤ m + 1
one_at_most (HBound i) n m l = omega arith
one_at_most _ n m l = omega (arith, l)

pub size_least : (e : Tree) → least_size e ≤ size e
size_least (Leaf h) = omega arith
size_least (One h a) = one_at_most h (least_size a) (size a) (size_least a)
size_least (Two h a b) = omega (arith, size_least a, size_least b)
size_least (Three h a b c) = omega (arith, size_least a, size_least b, size_least c)

pub height_least : (e : Tree) → least_height e ≤ height e
height_least (Leaf h) = omega arith
height_least (One h a) = one_at_most h (least_height a) (height a) (height_least a)
height_least (Two h a b) = omega (arith, height_least a, height_least b)
height_least (Three h a b c) = omega (arith, height_least a, height_least b, height_least c)

-- ---- what is large
pub larger : (a b : Tree) → least_size a ≤ least_size b → least_height a ≤ least_height b → HasLargeInstances a → HasLargeInstances b
larger a b l m (inl p) = inl (omega (arith, l, p))
larger a b l m (inr p) = inr (omega (arith, m, p))

pub large_one : (h : Head) (a : Tree) → ((i : ℕ) → h ≡ HBound i → ⊥) → HasLargeInstances a → HasLargeInstances (One h a)
large_one (HBound i) a n l = absurd (n i refl)
large_one h a n l = larger a (One h a) (omega arith) (omega arith) l

pub large_use : (body : Tree) (zs ts : List Tree) → HasLargeInstances body → HasLargeInstances (inst_many (inst_types body zs) ts)
large_use body zs ts l =
    larger (inst_types body zs) (inst_many (inst_types body zs) ts) (least_many added sum_joins (inst_types body zs) ts) (least_many max max_joins (inst_types body zs) ts)
    (larger body (inst_types body zs) (least_types added sum_joins body zs) (least_types max max_joins body zs) l)
