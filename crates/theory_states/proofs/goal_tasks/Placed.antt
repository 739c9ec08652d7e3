-- Declarations by their places, theories by their paths and goals by their names: a loop one step on.
use Rattle.std.proofs.Common.{◌≡◌, ℕ, zero, suc, ◌<◌, ◌≤◌, ◌+◌, Bool, true, false, cond, List, [], ◌∷◌, ◌++◌, map, length, get_or, take, drop, reverse, Some, None, slice_get, option_to_list, All, refl, sym, ap, ◌∙◌, arith, add-one}
use Rattle.std.specs.List.{find}
use Rattle.std.proofs.lemmas.List.{append_assoc, append-nil, take_more, map_more, reverse-append, drop_all, take-map}
use Rattle.std.proofs.lemmas.List.Elements.{All-nil, All-append}
use Rattle.trees.specs.Tree.{Tree}
use Rattle.tasks.specs.declared.declaration.Decl.{Decl}
use Rattle.tasks.specs.Meaning.{declaration_at, declarations_at}
use Rattle.theory_states.specs.goal_tasks.Meaning.{placed}

pub placed-append : (ds : List Decl) (xs ys : List ℕ) → placed ds (xs ++ ys) ≡ placed ds xs ++ placed ds ys
placed-append ds [] ys = refl
placed-append ds (x ∷ xs) ys = ap (λ z. option_to_list (slice_get ds x) ++ z) (placed-append ds xs ys) ∙ sym (append_assoc (option_to_list (slice_get ds x)) (placed ds xs) (placed ds ys))

pub placed_more : (ds : List Decl) (ks : List ℕ) (i k : ℕ) → i < length ks → k ≡ get_or ks i 0 → placed ds (take (i + 1) ks) ≡ placed ds (take i ks) ++ option_to_list (slice_get ds k)
placed_more ds ks i k h e = ap (placed ds) (take_more ks i 0 h) ∙ placed-append ds (take i ks) (get_or ks i 0 ∷ []) ∙ ap (λ z. placed ds (take i ks) ++ z) (append-nil (option_to_list (slice_get ds (get_or ks i 0)))) ∙ ap (λ z. placed ds (take i ks) ++ option_to_list (slice_get ds z)) (sym e)

-- each place is there, so there are as many declarations as places
get_there : (ds : List Decl) (k : ℕ) → k < length ds → (d : Decl) × (slice_get ds k ≡ Some d)
get_there [] k h = absurd (omega arith)
get_there (d ∷ ds) zero h = (d, refl)
get_there (d ∷ ds) (suc k) h = get_there ds k (omega arith)

pub placed-take : (ds : List Decl) (n : ℕ) (ks : List ℕ) → All (λ k. k < length ds) ks → placed ds (take n ks) ≡ take n (placed ds ks)
placed-take ds zero ks a = refl
placed-take ds (suc n) [] a = refl
placed-take ds (suc n) (k ∷ ks) a =
    let g = get_there ds k (a 0 k (omega arith)) in
    let more = placed-take ds n ks (λ i d l. a (suc i) d (omega arith)) in
    ap (λ z. option_to_list z ++ placed ds (take n ks)) g.1 ∙ ap (λ z. g.0 ∷ z) more ∙ ap (λ z. take (suc n) (option_to_list z ++ placed ds ks)) (sym g.1)

-- ---- the first that passes a test, in a list and from its end
none_next : {X Y : Type 0} (p : Y → Bool) (f : X → Y) (xs : List X) (i : ℕ) (d : X) → i < length xs → p (f (get_or xs i d)) ≡ false → find p (map f (drop i xs)) ≡ find p (map f (drop (suc i) xs))
none_next p f [] i d h e = absurd (omega arith)
none_next p f (x ∷ xs) zero d h e = ap (λ b. cond b (Some (f x)) (find p (map f xs))) e
none_next p f (x ∷ xs) (suc i) d h e = none_next p f xs i d (omega arith) e

pub find_none : {X Y : Type 0} (p : Y → Bool) (f : X → Y) (xs : List X) (i : ℕ) (d : X) → i < length xs → p (f (get_or xs i d)) ≡ false → find p (map f (drop i xs)) ≡ find p (map f (drop (i + 1) xs))
find_none p f xs i d h e = none_next p f xs i d h e ∙ ap (λ n. find p (map f (drop n xs))) (sym (add-one i))

pub find_here : {X Y : Type 0} (p : Y → Bool) (f : X → Y) (xs : List X) (i : ℕ) (d : X) → i < length xs → p (f (get_or xs i d)) ≡ true → find p (map f (drop i xs)) ≡ Some (f (get_or xs i d))
find_here p f [] i d h e = absurd (omega arith)
find_here p f (x ∷ xs) zero d h e = ap (λ b. cond b (Some (f x)) (find p (map f xs))) e
find_here p f (x ∷ xs) (suc i) d h e = find_here p f xs i d (omega arith) e

pub find_past : {X Y : Type 0} (p : Y → Bool) (f : X → Y) (xs : List X) (i : ℕ) → length xs ≤ i → None ≡ find p (map f (drop i xs))
find_past p f xs i h = ap (λ z. find p (map f z)) (sym (drop_all i xs h))

reversed_more : {X Y : Type 0} (f : X → Y) (xs : List X) (i : ℕ) (d : X) → i < length xs → reverse (map f (take (i + 1) xs)) ≡ f (get_or xs i d) ∷ reverse (map f (take i xs))
reversed_more f xs i d h = ap reverse (map_more f xs i d h) ∙ reverse-append (map f (take i xs)) (f (get_or xs i d) ∷ [])

pub find_back_none : {X Y : Type 0} (p : Y → Bool) (f : X → Y) (xs : List X) (i : ℕ) (d : X) → i < length xs → p (f (get_or xs i d)) ≡ false → find p (reverse (map f (take (i + 1) xs))) ≡ find p (reverse (map f (take i xs)))
find_back_none p f xs i d h e = ap (find p) (reversed_more f xs i d h) ∙ ap (λ b. cond b (Some (f (get_or xs i d))) (find p (reverse (map f (take i xs))))) e

pub find_back_here : {X Y : Type 0} (p : Y → Bool) (f : X → Y) (xs : List X) (i : ℕ) (d : X) → i < length xs → p (f (get_or xs i d)) ≡ true → find p (reverse (map f (take (i + 1) xs))) ≡ Some (f (get_or xs i d))
find_back_here p f xs i d h e = ap (find p) (reversed_more f xs i d h) ∙ ap (λ b. cond b (Some (f (get_or xs i d))) (find p (reverse (map f (take i xs))))) e

pub drop-map : {X Y : Type 0} (f : X → Y) (n : ℕ) (xs : List X) → drop n (map f xs) ≡ map f (drop n xs)
drop-map f zero xs = refl
drop-map f (suc n) [] = refl
drop-map f (suc n) (x ∷ xs) = drop-map f n xs

-- what holds of each declaration holds of those with these places
pub placed_all : (P : Decl → Type 0) (ds : List Decl) (ks : List ℕ) → All P ds → All P (placed ds ks)
placed_all P ds [] a = All-nil P
placed_all P ds (k ∷ ks) a = All-append P (option_to_list (slice_get ds k)) (placed ds ks) (one ds k a) (placed_all P ds ks a)
  where
    one : (es : List Decl) (j : ℕ) → All P es → All P (option_to_list (slice_get es j))
    one [] j b = All-nil P
    one (e ∷ es) zero b = λ i d l. elim i as (λ j. j < 1 → P (get_or (e ∷ []) j d)) [ zero ↦ λ _. b 0 e (omega arith) | suc j ↦ λ h. absurd (omega arith) ] l
    one (e ∷ es) (suc j) b = one es j (λ i d l. b (suc i) d (omega arith))

-- the declarations before a goal
pub before_is : (s : List Tree) (ds : List Decl) (n : ℕ) (ks : List ℕ) → All (λ k. k < length ds) ks → declarations_at s (placed ds (take n ks)) ≡ take n (declarations_at s (placed ds ks))
before_is s ds n ks a = ap (declarations_at s) (placed-take ds n ks a) ∙ sym (take-map (declaration_at s) n (placed ds ks))
