-- Whether a word is in lists of words.
use Rattle.std.proofs.Common.{◌≡◌, ℕ, suc, Bool, true, false, cond, ◌||◌, List, [], ◌∷◌, ◌++◌, reverse, Option, Some, None, option_map, refl, sym, ap, ◌∙◌}
use mathlib.Core.List.{reverse-cons}
use Rattle.std.specs.Option.{is_some}
use Rattle.std.specs.Str.{bytes_eq}
use Rattle.surface.specs.Lexeme.{Word}
use Rattle.name_resolution.specs.Where.{place_of}

pub one_more : (x : Option ℕ) → is_some (option_map suc x) ≡ is_some x
one_more None = refl
one_more (Some k) = refl

head_first : (b : Bool) (x y z : Option ℕ) → is_some x ≡ (is_some y || is_some z) → is_some (cond b (Some 0) (option_map suc x)) ≡ (is_some (cond b (Some 0) (option_map suc y)) || is_some z)
head_first true x y z h = refl
head_first false x y z h = one_more x ∙ (h ∙ ap (λ (q : Bool). q || is_some z) (sym (one_more y)))

pub placed_both : (c : Word) (xs ys : List Word) → is_some (place_of c (xs ++ ys)) ≡ (is_some (place_of c xs) || is_some (place_of c ys))
placed_both c [] ys = refl
placed_both c (x ∷ xs) ys = head_first (bytes_eq x c) (place_of c (xs ++ ys)) (place_of c xs) (place_of c ys) (placed_both c xs ys)

head_last : (b : Bool) (x : Option ℕ) → (is_some x || is_some (cond b (Some 0) (option_map suc None))) ≡ is_some (cond b (Some 0) (option_map suc x))
head_last true None = refl
head_last true (Some k) = refl
head_last false None = refl
head_last false (Some k) = refl

placed_reverse : (c : Word) (xs : List Word) → is_some (place_of c (reverse xs)) ≡ is_some (place_of c xs)
placed_reverse c [] = refl
placed_reverse c (x ∷ xs) =
    ap (λ (ws : List Word). is_some (place_of c ws)) (reverse-cons x xs) ∙ (placed_both c (reverse xs) (x ∷ []) ∙ (ap (λ (q : Bool). q || is_some (place_of c (x ∷ []))) (placed_reverse c xs) ∙ head_last (bytes_eq x c) (place_of c xs)))

pub placed_under : (c : Word) (xs ys : List Word) → is_some (place_of c (reverse xs ++ ys)) ≡ (is_some (place_of c xs) || is_some (place_of c ys))
placed_under c xs ys = placed_both c (reverse xs) ys ∙ ap (λ (q : Bool). q || is_some (place_of c ys)) (placed_reverse c xs)
