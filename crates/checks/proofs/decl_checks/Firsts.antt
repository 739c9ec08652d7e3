-- The first member of a list for which a fact fails.
use Rattle.std.proofs.Common.{◌≡◌, ◌↔◌, ℕ, zero, suc, ◌+◌, ◌<◌, Bool, IsTrue, List, [], ◌∷◌, length, All, refl, sym, subst, ap, add-one, arith}
use Rattle.std.proofs.lemmas.List.Elements.{All-cons, All-head, All-tail}
use Rattle.checks.specs.decl_checks.Checks.{IsFirstWithout}

module _ {X : Type 0} (P : X → Type 0) where
  pub first_next : (x : X) (xs : List X) (n : ℕ) → P x → IsFirstWithout P xs n → IsFirstWithout P (x ∷ xs) (n + 1)
  first_next x xs n p f = subst (IsFirstWithout P (x ∷ xs)) (sym (add-one n)) (p, f)

  pub not_all : (xs : List X) (n : ℕ) → IsFirstWithout P xs n → All P xs → ⊥
  not_all [] n f a = f
  not_all (x ∷ xs) zero f a = f (All-head P x xs a)
  not_all (x ∷ xs) (suc n) f a = not_all xs n f.1 (All-tail P x xs a)

  pub one_first : (xs : List X) (n m : ℕ) → IsFirstWithout P xs n → IsFirstWithout P xs m → n ≡ m
  one_first [] n m f g = absurd f
  one_first (x ∷ xs) zero zero f g = refl
  one_first (x ∷ xs) zero (suc m) f g = absurd (f g.0)
  one_first (x ∷ xs) (suc n) zero f g = absurd (g f.0)
  one_first (x ∷ xs) (suc n) (suc m) f g = ap suc (one_first xs n m f.1 g.1)

  pub first_within : (xs : List X) (n : ℕ) → IsFirstWithout P xs n → n < length xs
  first_within [] n f = absurd f
  first_within (x ∷ xs) zero f = omega arith
  first_within (x ∷ xs) (suc n) f = (let l = first_within xs n f.1 in omega arith)

  -- ---- members of a list that is taken apart
  pub first_has : (x : X) (xs ys : List X) → ys ≡ x ∷ xs → All P ys → P x
  first_has x xs ys e a = All-head P x xs (subst (All P) e a)

  pub all_next : (x : X) (xs ys : List X) (b : Bool) → ys ≡ x ∷ xs → P x → (IsTrue b ↔ All P xs) → IsTrue b ↔ All P ys
  all_next x xs ys b e p h = subst (λ zs. IsTrue b ↔ All P zs) (sym e) (λ t. All-cons P x xs p (h.0 t), λ a. h.1 (All-tail P x xs a))
