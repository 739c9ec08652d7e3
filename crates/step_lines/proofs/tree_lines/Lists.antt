-- Lists made of what each of a list is.
use Rattle.std.proofs.Common.{◌≡◌, ℕ, zero, suc, ◌+◌, ◌<◌, ◌≤◌, List, [], ◌∷◌, ◌++◌, length, map, get_or, drop, Option, Some, None, refl, sym, ap, ◌∙◌, append_assoc, append-nil, arith}
use Rattle.std.proofs.lemmas.List.{drop_more, drop_all}
use Rattle.std.specs.Option.{option_map, option_and_then}
use Rattle.std.specs.Borrow.{Bor}
use Rattle.step_lines.specs.tree_lines.Words.{LineWord, texts, each, pairs}

onto_pushed : {B : Type 0} (acc : List B) (y : B) (o : Option (List B)) → option_map (λ ys. (acc ++ y ∷ []) ++ ys) o ≡ option_map (λ ys. acc ++ ys) (option_map (λ ys. y ∷ ys) o)
onto_pushed acc y None = refl
onto_pushed acc y (Some ys) = ap Some (append_assoc acc (y ∷ []) ys)

module _ {A B : Type 0} where
  -- one more
  pub each_more : (f : A → Option B) (xs : List A) (i : ℕ) (d : A) (acc : List B) (y : B) (all : Option (List B)) → i < length xs → f (get_or xs i d) ≡ Some y → option_map (λ ys. acc ++ ys) (each f (drop i xs)) ≡ all
      → option_map (λ ys. (acc ++ y ∷ []) ++ ys) (each f (drop (i + 1) xs)) ≡ all
  each_more f xs i d acc y all lt e h = onto_pushed acc y (each f (drop (i + 1) xs)) ∙ (let k = rw (drop_more xs i d lt, e) at h in k)

  -- one is missing
  pub each_missing : (f : A → Option B) (xs : List A) (i : ℕ) (d : A) (acc : List B) (all : Option (List B)) → i < length xs → f (get_or xs i d) ≡ None → option_map (λ ys. acc ++ ys) (each f (drop i xs)) ≡ all → None ≡ all
  each_missing f xs i d acc all lt e h = let k = rw (drop_more xs i d lt, e) at h in k

  -- the end
  pub each_done : (f : A → Option B) (xs : List A) (i : ℕ) (acc : List B) (all : Option (List B)) → length xs ≤ i → option_map (λ ys. acc ++ ys) (each f (drop i xs)) ≡ all → Some acc ≡ all
  each_done f xs i acc all le h = let k = rw (drop_all i xs le) at h in ap Some (sym (append-nil acc)) ∙ k

  -- the beginning
  pub each_start : (f : A → Option B) (xs : List A) → option_map (λ ys. [] ++ ys) (each f xs) ≡ each f xs
  each_start f xs = at (each f xs) where
    at : (o : Option (List B)) → option_map (λ ys. [] ++ ys) o ≡ o
    at None = refl
    at (Some ys) = refl

pub each_map : {A B C : Type 0} (f : B → Option C) (g : A → B) (xs : List A) → each f (map g xs) ≡ each (λ x. f (g x)) xs
each_map f g [] = refl
each_map f g (x ∷ xs) = ap (λ o. option_and_then (λ y. option_map (λ ys. y ∷ ys) o) (f (g x))) (each_map f g xs)

-- a list made of what each word of a line is, word by word
module _ {B : Type 0} (f : LineWord → Option B) (ws : List (Bor LineWord)) (i : ℕ) (d : Bor LineWord) (acc : List B) (all : Option (List B)) where
  pub each_word_more : (y : B) → i < length ws → Some y ≡ f (get_or ws i d).now → option_map (λ ys. acc ++ ys) (each f (texts (drop i ws))) ≡ all
      → option_map (λ ys. (acc ++ y ∷ []) ++ ys) (each f (texts (drop (i + 1) ws))) ≡ all
  each_word_more y lt e h = onto_pushed acc y (each f (texts (drop (i + 1) ws))) ∙ (let k = rw (drop_more ws i d lt, sym e) at h in k)

  pub each_word_missing : i < length ws → None ≡ f (get_or ws i d).now → option_map (λ ys. acc ++ ys) (each f (texts (drop i ws))) ≡ all → None ≡ all
  each_word_missing lt e h = let k = rw (drop_more ws i d lt, sym e) at h in k

module _ {A B : Type 0} (p : LineWord → Option A) (q : LineWord → Option B) where
  first_missing : (w : LineWord) (ws : List LineWord) → None ≡ p w → None ≡ pairs p q (w ∷ ws)
  first_missing w [] e = refl
  first_missing w (v ∷ ws) e = rw (sym e) refl

  second_missing : (w v : LineWord) (ws : List LineWord) (x : A) → Some x ≡ p w → None ≡ q v → None ≡ pairs p q (w ∷ v ∷ ws)
  second_missing w v ws x e e' = rw (sym e, sym e') refl

  module _ (ws : List (Bor LineWord)) (i : ℕ) (d : Bor LineWord) (acc : List (A × B)) (all : Option (List (A × B))) (h : option_map (λ ps. acc ++ ps) (pairs p q (texts (drop i ws))) ≡ all) where
    one_left : i < length ws → drop i ws ≡ get_or ws i d ∷ drop (i + 1) ws
    one_left lt = drop_more ws i d lt

    two_left : i + 1 < length ws → drop i ws ≡ get_or ws i d ∷ (get_or ws (i + 1) d ∷ drop (i + 2) ws)
    two_left lt =
        let e : i + 1 + 1 ≡ i + 2 = omega arith in
        drop_more ws i d (omega arith) ∙ ap (λ l. get_or ws i d ∷ l) (drop_more ws (i + 1) d lt ∙ ap (λ k. get_or ws (i + 1) d ∷ drop k ws) e)

    pub pairs_more : (x : A) (y : B) → i + 1 < length ws → Some x ≡ p (get_or ws i d).now → Some y ≡ q (get_or ws (i + 1) d).now
        → option_map (λ ps. (acc ++ (x, y) ∷ []) ++ ps) (pairs p q (texts (drop (i + 2) ws))) ≡ all
    pairs_more x y lt e e' = onto_pushed acc (x, y) (pairs p q (texts (drop (i + 2) ws))) ∙ (let k = rw (two_left lt, sym e, sym e') at h in k)

    pub pairs_no_first : i < length ws → None ≡ p (get_or ws i d).now → None ≡ all
    pairs_no_first lt e = ap (option_map (λ ps. acc ++ ps)) (first_missing (get_or ws i d).now (texts (drop (i + 1) ws)) e) ∙ (let k = rw (one_left lt) at h in k)

    pub pairs_no_second : (x : A) → i + 1 < length ws → Some x ≡ p (get_or ws i d).now → None ≡ q (get_or ws (i + 1) d).now → None ≡ all
    pairs_no_second x lt e e' = let k = rw (two_left lt, sym e, sym e') at h in k

  one_word : (ws : List (Bor LineWord)) (i : ℕ) → i < length ws → length ws ≤ i + 1 → None ≡ pairs p q (texts (drop i ws))
  one_word [] i lt le = absurd (omega arith)
  one_word (w ∷ []) zero lt le = refl
  one_word (w ∷ v ∷ ws) zero lt le = absurd (omega arith)
  one_word (w ∷ ws) (suc i) lt le = one_word ws i (omega arith) (omega arith)

  module _ (ws : List (Bor LineWord)) (i : ℕ) (acc : List (A × B)) (all : Option (List (A × B))) (h : option_map (λ ps. acc ++ ps) (pairs p q (texts (drop i ws))) ≡ all) where
    pub pairs_odd : i < length ws → length ws ≤ i + 1 → None ≡ all
    pairs_odd lt le = ap (option_map (λ ps. acc ++ ps)) (one_word ws i lt le) ∙ h

    pub pairs_done : length ws ≤ i → Some acc ≡ all
    pairs_done le = let k = rw (drop_all i ws le) at h in ap Some (sym (append-nil acc)) ∙ k
