-- The first of a list for which a fact fails is one.
use Rattle.std.proofs.Common.{◌≡◌, ℕ, zero, suc, List, [], ◌∷◌, All, refl, ap}
use Rattle.std.proofs.lemmas.List.Elements.{All-head, All-tail}
use Rattle.elaboration_laws.specs.checks.decl_checks.Checks.{IsFirstWithout}

module _ {X : Type 0} (P : X → Type 0) where
  pub without_or : (xs : List X) (n : ℕ) → All P xs → IsFirstWithout P xs n → ⊥
  without_or [] n a h = h
  without_or (x ∷ xs) zero a h = h (All-head P x xs a)
  without_or (x ∷ xs) (suc n) a h = without_or xs n (All-tail P x xs a) h.1

  pub one_without : (xs : List X) (n m : ℕ) → IsFirstWithout P xs n → IsFirstWithout P xs m → n ≡ m
  one_without [] n m h k = absurd h
  one_without (x ∷ xs) zero zero h k = refl
  one_without (x ∷ xs) zero (suc m) h k = absurd (h k.0)
  one_without (x ∷ xs) (suc n) zero h k = absurd (k h.0)
  one_without (x ∷ xs) (suc n) (suc m) h k = ap suc (one_without xs n m h.1 k.1)
