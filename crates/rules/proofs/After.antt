-- Formulas after a sequent.
use Rattle.std.proofs.Common.{◌≡◌, ℕ, ◌<◌, arith, zero, suc, List, [], ◌∷◌, ◌++◌, length, map, get_or, refl, sym, append_assoc}
use Rattle.trees.specs.Tree.{Tree}

pub two_after : (s : List Tree) (a b : Tree) → s ++ a ∷ b ∷ [] ≡ (s ++ a ∷ []) ++ b ∷ []
two_after s a b = sym (append_assoc s (a ∷ []) (b ∷ []))

module _ {X : Type 0} (s : List Tree) (f : X → List Tree) (d : X) where
  pub each_after : (ps : List (List Tree)) (xs : List X) → length ps ≡ length xs → ((k : ℕ) → k < length xs → get_or ps k [] ≡ s ++ f (get_or xs k d)) → ps ≡ map (λ z. s ++ z) (map f xs)
  each_after [] [] l h = refl
  each_after (p ∷ ps) [] l h = absurd (omega (arith, l))
  each_after [] (x ∷ xs) l h = absurd (omega (arith, l))
  each_after (p ∷ ps) (x ∷ xs) l h = cc (h 0 (omega arith), each_after ps xs (omega (arith, l)) (λ k g. h (suc k) (omega arith)))

  pub one_after : (xs : List X) (k : ℕ) → k < length xs → get_or (map (λ z. s ++ z) (map f xs)) k [] ≡ s ++ f (get_or xs k d)
  one_after [] k h = absurd (omega arith)
  one_after (x ∷ xs) zero h = refl
  one_after (x ∷ xs) (suc k) h = one_after xs k (omega arith)
