-- What all of a list have.
use Rattle.std.proofs.Common.{◌≡◌, cond, Bool, true, false, List, [], ◌∷◌, reverse, All, Option, Some, sym, subst}
use Rattle.std.specs.List.{find}
use Rattle.std.proofs.lemmas.List.{reverse-append}
use Rattle.std.proofs.lemmas.List.Elements.{All-head, All-tail, All-push}

-- what is found in a list is of it
module _ {X : Type 0} (P : X → Type 0) where
  found_by : (b : Bool) (y x : X) (r : Option X) → P y → (r ≡ Some x → P x) → cond b (Some y) r ≡ Some x → P x
  found_by true y x r h k e = let i : y ≡ x = cc in subst P i h
  found_by false y x r h k e = k e

  pub found_has : (test : X → Bool) (xs : List X) (x : X) → All P xs → find test xs ≡ Some x → P x
  found_has test [] x a e = absurd (cc)
  found_has test (y ∷ ys) x a e = found_by (test y) y x (find test ys) (All-head P y ys a) (λ k. found_has test ys x (All-tail P y ys a) k) e

  pub all_reversed : (xs : List X) → All P xs → All P (reverse xs)
  all_reversed [] h = h
  all_reversed (x ∷ xs) h = subst (All P) (sym (reverse-append (x ∷ []) xs)) (All-push P (reverse xs) x (all_reversed xs (All-tail P x xs h)) (All-head P x xs h))
