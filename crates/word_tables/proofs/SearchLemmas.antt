-- A binary search in a table of words.
use Rattle.std.proofs.Common.{◌≡◌, ℕ, zero, suc, ◌+◌, ◌<◌, ◌≤◌, Bool, true, false, ◌&&◌, nat_eq, cond, List, [], ◌∷◌, length, get_or, slice_get, Option, Some, None, ◌↔◌, refl, sym, ap, ◌∙◌, subst, arith, Ordering, Less, Equal, Greater, Bor, ◌⊎◌, inl, inr}
use Rattle.std.specs.Ordering.{nat_cmp, is_lt, ordering_reverse, ordering_then}
use Rattle.std.specs.Cmp.Lexicographic.{slice_cmp, nat_list_cmp_total}
use Rattle.std.specs.Cmp.{IsTotalOrder}
use Rattle.std.proofs.lemmas.Bool.Decides.{nat_tests}
use Rattle.std.specs.List.{position_from}
use Rattle.std.proofs.lemmas.Bool.{eqb-true, eq-eqb, and_parts}
use Rattle.word_tables.specs.Words.{ascends, texts, is_same_word, place_in_words, Finds}
use Rattle.std.proofs.lemmas.Option.{slice_get-get_or as get-some}

-- the words from `low` up to `high` are those that may still be the one
pub record Between (word : List ℕ) (words : List (List ℕ)) (low high : ℕ) : Type 0 where
  pub ordered : low ≤ high
  pub within : high ≤ length words
  pub below : (i : ℕ) → i < low → slice_cmp nat_cmp (get_or words i []) word ≡ Less
  pub above : (i : ℕ) → high ≤ i → i < length words → slice_cmp nat_cmp (get_or words i []) word ≡ Greater

pub some-get : {X : Type 0} (xs : List X) (i : ℕ) (d x : X) → slice_get xs i ≡ Some x → (i < length xs) × (get_or xs i d ≡ x)
some-get [] i d x e = cc
some-get (y ∷ xs) zero d x e = (omega arith, cc)
some-get (y ∷ xs) (suc i) d x e = let r = some-get xs i d x e in (omega arith, r.1)

pub get-texts : (ws : List (Bor (List ℕ))) (i : ℕ) (d : Bor (List ℕ)) → i < length ws → slice_get (texts ws) i ≡ Some (get_or ws i d).now
get-texts [] i d lt = absurd (omega arith)
get-texts (w ∷ ws) zero d lt = refl
get-texts (w ∷ ws) (suc i) d lt = get-texts ws i d (omega arith)

pub length-texts : (ws : List (Bor (List ℕ))) → length (texts ws) ≡ length ws
length-texts [] = refl
length-texts (w ∷ ws) = ap suc (length-texts ws)

pub get-texts_or : (ws : List (Bor (List ℕ))) (i : ℕ) (d : Bor (List ℕ)) → i < length ws → get_or (texts ws) i [] ≡ (get_or ws i d).now
get-texts_or ws i d lt = (some-get (texts ws) i [] _ (get-texts ws i d lt)).1

le-cases : (a b : ℕ) → a ≤ b → (a ≡ b) ⊎ (a < b)
le-cases a b le = grind arith

lt-cases : (a b : ℕ) → (a < b) ⊎ (b ≤ a)
lt-cases a b = grind arith

compare-cases : (a b : ℕ) → (a ≡ b) ⊎ ((a < b) ⊎ (b < a))
compare-cases a b = grind arith

pub bool-cases : (b : Bool) → (b ≡ true) ⊎ (b ≡ false)
bool-cases true = inl refl
bool-cases false = inr refl

same-is : (v w : List ℕ) → is_same_word v w ≡ true → v ≡ w
same-is [] [] e = refl
same-is [] (y ∷ w) e = cc
same-is (x ∷ v) [] e = cc
same-is (x ∷ v) (y ∷ w) e =
    let p = eqb-true x y (and_parts (nat_eq x y) (is_same_word v w) e).0 in
    let q = same-is v w (and_parts (nat_eq x y) (is_same_word v w) e).1 in
    cc

is-same : (v w : List ℕ) → v ≡ w → is_same_word v w ≡ true
is-same v w e = ap (λ u. is_same_word v u) (sym e) ∙ self-same v
  where
    self-same : (v : List ℕ) → is_same_word v v ≡ true
    self-same [] = refl
    self-same (x ∷ v) = rw (eq-eqb x x refl) (self-same v)

order : IsTotalOrder (slice_cmp nat_cmp)
order = nat_list_cmp_total

lt-less : (o : Ordering) → is_lt o ≡ true → o ≡ Less
lt-less Less e = refl
lt-less Equal e = cc
lt-less Greater e = cc

nat-equal : (x y : ℕ) → nat_cmp x y ≡ Equal → x ≡ y
nat-equal x y e = grind (arith, nat_tests)

nat-same : (x : ℕ) → nat_cmp x x ≡ Equal
nat-same x = grind (arith, nat_tests)

then-left : (a b : Ordering) → ordering_then a b ≡ Equal → a ≡ Equal
then-left Less b e = cc
then-left Equal b e = refl
then-left Greater b e = cc

then-right : (a b : Ordering) → ordering_then a b ≡ Equal → b ≡ Equal
then-right Less b e = cc
then-right Equal b e = e
then-right Greater b e = cc

equal-is : (xs ys : List ℕ) → slice_cmp nat_cmp xs ys ≡ Equal → xs ≡ ys
equal-is [] [] e = refl
equal-is [] (y ∷ ys) e = cc
equal-is (x ∷ xs) [] e = cc
equal-is (x ∷ xs) (y ∷ ys) e =
    let p = nat-equal x y (then-left (nat_cmp x y) _ e) in
    let q = equal-is xs ys (then-right (nat_cmp x y) _ e) in
    cc

self-equal : (xs : List ℕ) → slice_cmp nat_cmp xs xs ≡ Equal
self-equal [] = refl
self-equal (x ∷ xs) = ap (λ o. ordering_then o (slice_cmp nat_cmp xs xs)) (nat-same x) ∙ self-equal xs

-- a first word is below each later one
first-below : (v : List ℕ) (ws : List (List ℕ)) (j : ℕ) → ascends (v ∷ ws) ≡ true → j < length ws → slice_cmp nat_cmp v (get_or ws j []) ≡ Less
first-below v [] j a lt = absurd (omega arith)
first-below v (w ∷ ws) zero a lt = lt-less _ (and_parts (is_lt (slice_cmp nat_cmp v w)) (ascends (w ∷ ws)) a).0
first-below v (w ∷ ws) (suc j) a lt =
    order.trans v w (get_or ws j []) (lt-less _ (and_parts (is_lt (slice_cmp nat_cmp v w)) (ascends (w ∷ ws)) a).0) (first-below w ws j (and_parts (is_lt (slice_cmp nat_cmp v w)) (ascends (w ∷ ws)) a).1 (omega arith))

rest-ascends : (v : List ℕ) (ws : List (List ℕ)) → ascends (v ∷ ws) ≡ true → ascends ws ≡ true
rest-ascends v [] a = refl
rest-ascends v (w ∷ ws) a = (and_parts (is_lt (slice_cmp nat_cmp v w)) (ascends (w ∷ ws)) a).1

-- each word is below each later one
pub ascending : (ws : List (List ℕ)) (i j : ℕ) → ascends ws ≡ true → i < j → j < length ws → slice_cmp nat_cmp (get_or ws i []) (get_or ws j []) ≡ Less
ascending [] i j a lt within = absurd (omega arith)
ascending (w ∷ ws) i zero a lt within = absurd (omega arith)
ascending (w ∷ ws) zero (suc j) a lt within = first-below w ws j a (omega arith)
ascending (w ∷ ws) (suc i) (suc j) a lt within = ascending ws i j (rest-ascends w ws a) (omega arith) (omega arith)

-- the other way round
turn : (x y : List ℕ) (o : Ordering) → slice_cmp nat_cmp x y ≡ o → slice_cmp nat_cmp y x ≡ ordering_reverse o
turn x y o e = order.antisymm y x ∙ ap ordering_reverse e

-- the words up to a smaller one are passed
pub raise : (word : List ℕ) (words : List (List ℕ)) (low high m : ℕ) → ascends words ≡ true → Between word words low high → m < high → slice_cmp nat_cmp (get_or words m []) word ≡ Less → Between word words (m + 1) high
raise word words low high m a b lt e = record {
  ordered = omega arith;
  within = b.within;
  below = λ i l. elim (le-cases i m (omega arith)) [
    | inl same ↦ ap (λ v. slice_cmp nat_cmp (get_or words v []) word) same ∙ e
    | inr less ↦ order.trans (get_or words i []) (get_or words m []) word (ascending words i m a less (omega (arith, b.within))) e
  ];
  above = b.above;
}

-- the words from a greater one on are passed
pub lower : (word : List ℕ) (words : List (List ℕ)) (low high m : ℕ) → ascends words ≡ true → Between word words low high → low ≤ m → m < high → slice_cmp nat_cmp (get_or words m []) word ≡ Greater → Between word words low m
lower word words low high m a b least lt e = record {
  ordered = least;
  within = omega (arith, b.within);
  below = b.below;
  above = λ i l within. elim (le-cases m i l) [
    | inl same ↦ ap (λ v. slice_cmp nat_cmp (get_or words v []) word) (sym same) ∙ e
    | inr less ↦ turn word (get_or words i []) Less (order.trans word (get_or words m []) (get_or words i []) (turn (get_or words m []) word Greater e) (ascending words m i a less within))
  ];
}

-- no word is below itself
not-less : (x y : List ℕ) → x ≡ y → slice_cmp nat_cmp x y ≡ Less → ⊥
not-less x y e h = let s = self-equal x in let t : slice_cmp nat_cmp x y ≡ Equal = ap (λ v. slice_cmp nat_cmp x v) (sym e) ∙ s in cc

not-greater : (x y : List ℕ) → x ≡ y → slice_cmp nat_cmp x y ≡ Greater → ⊥
not-greater x y e h = not-less y x (sym e) (turn x y Greater h)

-- a word is in one place
one-place : (words : List (List ℕ)) (i j : ℕ) → ascends words ≡ true → i < length words → j < length words → get_or words i [] ≡ get_or words j [] → i ≡ j
one-place words i j a li lj e = elim (compare-cases i j) [
  | inl same ↦ same
  | inr (inl less) ↦ absurd (not-less _ _ e (ascending words i j a less lj))
  | inr (inr more) ↦ absurd (not-less _ _ (sym e) (ascending words j i a more li))
]

pub found : (word : List ℕ) (words : List (List ℕ)) (m : ℕ) → ascends words ≡ true → m < length words → slice_cmp nat_cmp (get_or words m []) word ≡ Equal → (i : ℕ) → (Some m ≡ Some i) ↔ (slice_get words i ≡ Some word)
found word words m a lt e i =
    let is = equal-is (get_or words m []) word e in (
      λ same. let s : m ≡ i = cc in subst (λ v. slice_get words v ≡ Some word) s (get-some words m [] lt ∙ ap Some is),
      λ there. let r = some-get words i [] word there in ap Some (one-place words m i a lt r.0 (is ∙ sym r.1)),
    )

pub absent : (word : List ℕ) (words : List (List ℕ)) (low high : ℕ) (r : Option ℕ) → r ≡ None → Between word words low high → high ≤ low → (i : ℕ) → (r ≡ Some i) ↔ (slice_get words i ≡ Some word)
absent word words low high r none b le i = (
  λ same. cc,
  λ there. let s = some-get words i [] word there in
      absurd (elim (lt-cases i low) [
        | inl less ↦ not-less _ _ s.1 (b.below i less)
        | inr more ↦ not-greater _ _ s.1 (b.above i (omega arith) s.0)
      ]),
)

-- what a comparison with the word at a place says
pub compared : (ws : List (Bor (List ℕ))) (m : ℕ) (d : Bor (List ℕ)) (bytes word : List ℕ) (r o : Ordering) → m < length ws → bytes ≡ (get_or ws m d).now → r ≡ slice_cmp nat_cmp bytes word → r ≡ o → slice_cmp nat_cmp (get_or (texts ws) m []) word ≡ o
compared ws m d bytes word r o lt is e f =
    ap (λ v. slice_cmp nat_cmp v word) (get-texts_or ws m d lt ∙ sym is) ∙ sym e ∙ f

abbrev nothing : Option ℕ
nothing = None

-- what a search for the first place of a word gives
place-some : (words : List (List ℕ)) (word : List ℕ) (k i : ℕ) → position_from (λ w. is_same_word w word) k words ≡ Some i → (j : ℕ) × (i ≡ k + j) × (slice_get words j ≡ Some word)
place-some [] word k i e = cc
place-some (w ∷ words) word k i e = elim (bool-cases (is_same_word w word)) [
  | inl t ↦ let s : Some k ≡ Some i = sym (ap (λ b. cond b (Some k) (position_from (λ w. is_same_word w word) (k + 1) words)) t) ∙ e in
      let n : k ≡ i = cc in
      let same_word = same-is w word t in
      (0, omega arith, ap Some same_word)
  | inr f ↦ let s = sym (ap (λ b. cond b (Some k) (position_from (λ w. is_same_word w word) (k + 1) words)) f) ∙ e in
      let r = place-some words word (k + 1) i s in
      (suc r.0, omega (arith, r.1), r.2)
]

place-none : (words : List (List ℕ)) (word : List ℕ) (k : ℕ) → position_from (λ w. is_same_word w word) k words ≡ None → (j : ℕ) → slice_get words j ≡ Some word → ⊥
place-none [] word k e j h = cc
place-none (w ∷ words) word k e zero h =
    let is : w ≡ word = cc in
    let s : Some k ≡ nothing = sym (ap (λ b. cond b (Some k) (position_from (λ w. is_same_word w word) (k + 1) words)) (is-same w word is)) ∙ e in
    cc
place-none (w ∷ words) word k e (suc j) h = elim (bool-cases (is_same_word w word)) [
  | inl t ↦ let s : Some k ≡ nothing = sym (ap (λ b. cond b (Some k) (position_from (λ w. is_same_word w word) (k + 1) words)) t) ∙ e in let n : ⊥ = cc in n
  | inr f ↦ place-none words word (k + 1) (sym (ap (λ b. cond b (Some k) (position_from (λ w. is_same_word w word) (k + 1) words)) f) ∙ e) j h
]

no-place : (words : List (List ℕ)) (word : List ℕ) (r : Option ℕ) → Finds words word r → ((j : ℕ) → slice_get words j ≡ Some word → ⊥) → r ≡ None
no-place words word None h n = refl
no-place words word (Some i) h n = absurd (n i ((h i).0 refl))

place-by : (words : List (List ℕ)) (word : List ℕ) (r o : Option ℕ) → place_in_words word words ≡ o → Finds words word r → r ≡ o
place-by words word r None e h = no-place words word r h (place-none words word 0 e)
place-by words word r (Some i) e h =
    let p = place-some words word 0 i e in
    let same_place : p.0 ≡ i = omega (arith, p.1) in
    (h i).1 (ap (slice_get words) (sym same_place) ∙ p.2)

-- a place that is named exactly where the word stands is the first one
pub place-is : (words : List (List ℕ)) (word : List ℕ) (r : Option ℕ) → Finds words word r → r ≡ place_in_words word words
place-is words word r h = place-by words word r _ refl h
