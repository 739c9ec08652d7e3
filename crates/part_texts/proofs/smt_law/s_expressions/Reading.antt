-- A text is that of one expression alone: what is written can be told apart.
use Rattle.std.proofs.Common.{◌≡◌, ℕ, ◌==◌, ◌||◌, Bool, true, false, List, [], ◌∷◌, ◌++◌, length, get_or, drop, refl, sym, ap, ◌∙◌, append_assoc, arith}
use Rattle.std.specs.List.{list_any}
use Rattle.std.proofs.lemmas.Bool.Decides.{nat_tests}
use Rattle.part_texts.specs.smt_law.s_expressions.Sexps.{Sexp, SexpWord, Group, Nothing, Then, written_sexp, breaks, IsWord, IsOne, IsProperList, Ends}
use Rattle.tasks.proofs.plain_laws.Bools.{or_first as or_left, or_second as or_right}

-- ---- the first byte and the rest
first_byte : (c e : ℕ) (cs es : List ℕ) → c ∷ cs ≡ e ∷ es → c ≡ e
first_byte c e cs es h = ap (λ z. get_or z 0 0) h

rest_of : (c e : ℕ) (cs es : List ℕ) → c ∷ cs ≡ e ∷ es → cs ≡ es
rest_of c e cs es h = ap (drop 1) h

no_bytes : (c : ℕ) (cs : List ℕ) → [] ≡ c ∷ cs → ⊥
no_bytes c cs h = let n : 0 ≡ length (c ∷ cs) = ap length h in absurd (omega (arith, n))

-- a byte can't both break and not
one_byte : (c e : ℕ) → c ≡ e → breaks c ≡ true → breaks e ≡ false → ⊥
one_byte c e h on off = let q : true ≡ false = sym on ∙ ap breaks h ∙ off in absurd (cc)

-- ---- words
words_apart : (v w r q : List ℕ) → list_any breaks v ≡ false → list_any breaks w ≡ false → Ends r → Ends q → v ++ r ≡ w ++ q → (v ≡ w) × (r ≡ q)
words_apart [] [] r q a b e f h = (refl, h)
words_apart [] (c ∷ w) [] q a b e f h = absurd (no_bytes c (w ++ q) h)
words_apart [] (c ∷ w) (x ∷ r) q a b e f h = absurd (one_byte x c (first_byte x c r (w ++ q) h) e (or_left (breaks c) (list_any breaks w) b))
words_apart (c ∷ v) [] r [] a b e f h = absurd (no_bytes c (v ++ r) (sym h))
words_apart (c ∷ v) [] r (x ∷ q) a b e f h = absurd (one_byte x c (sym (first_byte c x (v ++ r) q h)) f (or_left (breaks c) (list_any breaks v) a))
words_apart (c ∷ v) (d ∷ w) r q a b e f h =
    let same : c ≡ d = first_byte c d (v ++ r) (w ++ q) h in
    let more = words_apart v w r q (or_right (breaks c) (list_any breaks v) a) (or_right (breaks d) (list_any breaks w) b) e f (rest_of c d (v ++ r) (w ++ q) h) in
    ((λ i. same i ∷ more.0 i), more.1)

-- a word doesn't begin with a byte that breaks words
word_begins : (w r : List ℕ) (c : ℕ) (q : List ℕ) → IsWord w → breaks c ≡ true → w ++ r ≡ c ∷ q → ⊥
word_begins [] r c q p on h = let n = p.some in absurd (omega (arith, n))
word_begins (x ∷ w) r c q p on h = one_byte c x (sym (first_byte x c (w ++ r) q h)) on (or_left (breaks x) (list_any breaks w) p.whole)

-- nor does an expression begin with a blank or `)`
one_begins : (s : Sexp) (r : List ℕ) (c : ℕ) (q : List ℕ) → IsOne s → breaks c ≡ true → (c == 40) ≡ false → (written_sexp s).text ++ r ≡ c ∷ q → ⊥
one_begins (SexpWord w) r c q p on off h = word_begins w r c q p on h
one_begins (Group s) r c q p on off h = let e : 40 ≡ c = ap (λ z. get_or z 0 0) h in absurd (grind (arith, nat_tests))
one_begins Nothing r c q p on off h = absurd p
one_begins (Then a b) r c q p on off h = absurd p

-- ---- expressions, members after `(`, and members each after a blank
pub record Told (s : Sexp) : Type 0 where
  pub one : IsOne s → (u : Sexp) → IsOne u → (r q : List ℕ) → Ends r → Ends q → (written_sexp s).text ++ r ≡ (written_sexp u).text ++ q → (s ≡ u) × (r ≡ q)
  pub first : IsProperList s → (u : Sexp) → IsProperList u → (r q : List ℕ) → (written_sexp s).first ++ 41 ∷ r ≡ (written_sexp u).first ++ 41 ∷ q → (s ≡ u) × (r ≡ q)
  pub later : IsProperList s → (u : Sexp) → IsProperList u → (r q : List ℕ) → (written_sexp s).later ++ 41 ∷ r ≡ (written_sexp u).later ++ 41 ∷ q → (s ≡ u) × (r ≡ q)

-- what is after the first member ends it
later_ends : (s : Sexp) (r : List ℕ) → IsProperList s → Ends ((written_sexp s).later ++ 41 ∷ r)
later_ends (SexpWord w) r p = absurd p
later_ends (Group s) r p = absurd p
later_ends Nothing r p = refl
later_ends (Then a b) r p = refl

word_told : (w : List ℕ) → Told (SexpWord w)
word_told w = record {
  one = λ p u. at p u;
  first = λ p u k r q h. absurd p;
  later = λ p u k r q h. absurd p;
}
  where
    at : IsWord w → (u : Sexp) → IsOne u → (r q : List ℕ) → Ends r → Ends q → w ++ r ≡ (written_sexp u).text ++ q → (SexpWord w ≡ u) × (r ≡ q)
    at p (SexpWord v) k r q e f h = let same = words_apart w v r q p.whole k.whole e f h in (ap SexpWord same.0, same.1)
    at p (Group s) k r q e f h = absurd (word_begins w r 40 ((written_sexp s).first ++ 41 ∷ [] ++ q) p refl h)
    at p Nothing k r q e f h = absurd k
    at p (Then a b) k r q e f h = absurd k

group_told : (s : Sexp) → Told s → Told (Group s)
group_told s t = record {
  one = λ p u. at p u;
  first = λ p u k r q h. absurd p;
  later = λ p u k r q h. absurd p;
}
  where
    at : IsProperList s → (u : Sexp) → IsOne u → (r q : List ℕ) → Ends r → Ends q → 40 ∷ (written_sexp s).first ++ 41 ∷ [] ++ r ≡ (written_sexp u).text ++ q → (Group s ≡ u) × (r ≡ q)
    at p (SexpWord v) k r q e f h = absurd (word_begins v q 40 ((written_sexp s).first ++ 41 ∷ [] ++ r) k refl (sym h))
    at p (Group u) k r q e f h =
        let inner : (written_sexp s).first ++ 41 ∷ r ≡ (written_sexp u).first ++ 41 ∷ q =
        sym (append_assoc (written_sexp s).first (41 ∷ []) r) ∙ ap (drop 1) h ∙ append_assoc (written_sexp u).first (41 ∷ []) q in
        let same = t.first p u k r q inner in (ap Group same.0, same.1)
    at p Nothing k r q e f h = absurd k
    at p (Then a b) k r q e f h = absurd k

nothing_told : Told Nothing
nothing_told = record {
  one = λ p u k r q e f h. absurd p;
  first = λ p u. at_first u;
  later = λ p u. at_later u;
}
  where
    at_first : (u : Sexp) → IsProperList u → (r q : List ℕ) → 41 ∷ r ≡ (written_sexp u).first ++ 41 ∷ q → (Nothing ≡ u) × (r ≡ q)
    at_first (SexpWord v) k r q h = absurd k
    at_first (Group s) k r q h = absurd k
    at_first Nothing k r q h = (refl, rest_of 41 41 r q h)
    at_first (Then a b) k r q h = absurd (one_begins a ((written_sexp b).later ++ 41 ∷ q) 41 r k.0 refl refl (sym (h ∙ append_assoc (written_sexp a).text (written_sexp b).later (41 ∷ q))))

    at_later : (u : Sexp) → IsProperList u → (r q : List ℕ) → 41 ∷ r ≡ (written_sexp u).later ++ 41 ∷ q → (Nothing ≡ u) × (r ≡ q)
    at_later (SexpWord v) k r q h = absurd k
    at_later (Group s) k r q h = absurd k
    at_later Nothing k r q h = (refl, rest_of 41 41 r q h)
    at_later (Then a b) k r q h = let e : 41 ≡ 32 = ap (λ z. get_or z 0 0) h in absurd (omega (arith, e))

then_told : (a b : Sexp) → Told a → Told b → Told (Then a b)
then_told a b t s = record {
  one = λ p u k r q e f h. absurd p;
  first = λ p u. at_first p u;
  later = λ p u. at_later p u;
}
  where
    both : IsProperList (Then a b) → (x y : Sexp) → IsProperList (Then x y) → (r q : List ℕ) → (written_sexp a).text ++ (written_sexp b).later ++ 41 ∷ r ≡ (written_sexp x).text ++ (written_sexp y).later ++ 41 ∷ q → (Then a b ≡ Then x y) × (r ≡ q)
    both p x y k r q h =
        let apart : (written_sexp a).text ++ ((written_sexp b).later ++ 41 ∷ r) ≡ (written_sexp x).text ++ ((written_sexp y).later ++ 41 ∷ q) =
        sym (append_assoc (written_sexp a).text (written_sexp b).later (41 ∷ r)) ∙ h ∙ append_assoc (written_sexp x).text (written_sexp y).later (41 ∷ q) in
        let one = t.one p.0 x k.0 ((written_sexp b).later ++ 41 ∷ r) ((written_sexp y).later ++ 41 ∷ q) (later_ends b r p.1) (later_ends y q k.1) apart in
        let more = s.later p.1 y k.1 r q one.1 in
        ((λ i. Then (one.0 i) (more.0 i)), more.1)

    at_first : IsProperList (Then a b) → (u : Sexp) → IsProperList u → (r q : List ℕ) → (written_sexp a).text ++ (written_sexp b).later ++ 41 ∷ r ≡ (written_sexp u).first ++ 41 ∷ q → (Then a b ≡ u) × (r ≡ q)
    at_first p (SexpWord v) k r q h = absurd k
    at_first p (Group s) k r q h = absurd k
    at_first p Nothing k r q h = absurd (one_begins a ((written_sexp b).later ++ 41 ∷ r) 41 q p.0 refl refl (sym (append_assoc (written_sexp a).text (written_sexp b).later (41 ∷ r)) ∙ h))
    at_first p (Then x y) k r q h = both p x y k r q h

    at_later : IsProperList (Then a b) → (u : Sexp) → IsProperList u → (r q : List ℕ) → 32 ∷ (written_sexp a).text ++ (written_sexp b).later ++ 41 ∷ r ≡ (written_sexp u).later ++ 41 ∷ q → (Then a b ≡ u) × (r ≡ q)
    at_later p (SexpWord v) k r q h = absurd k
    at_later p (Group s) k r q h = absurd k
    at_later p Nothing k r q h = let e : 32 ≡ 41 = ap (λ z. get_or z 0 0) h in absurd (omega (arith, e))
    at_later p (Then x y) k r q h = both p x y k r q (ap (drop 1) h)

pub told : (s : Sexp) → Told s
told (SexpWord w) = word_told w
told (Group s) = group_told s (told s)
told Nothing = nothing_told
told (Then a b) = then_told a b (told a) (told b)

-- two expressions with the same text are the same
pub same_text : (s u : Sexp) → IsOne s → IsOne u → (r q : List ℕ) → Ends r → Ends q → (written_sexp s).text ++ r ≡ (written_sexp u).text ++ q → (s ≡ u) × (r ≡ q)
same_text s u p k r q e f h = (told s).one p u k r q e f h
