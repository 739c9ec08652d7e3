-- The longest token at the front of a text, by its first byte.
use Rattle.tokens_why.proofs.Common.{◌≡◌, ℕ, zero, suc, ◌+◌, ◌-◌, ◌<◌, ◌≤◌, ◌≢◌, ◌⊎◌, inl, inr, Bool, true, false, ◌&&◌, ◌||◌, nat_eq, nat_lt, if◌then◌else◌, List, [], ◌∷◌, length, take, drop, slice_range, None, refl, sym, ap, ◌∙◌, subst, arith, list_all, prefix_len, nat_tests, eqb-true, drop_more, is_same_word, is_lower, is_digit, is_word_byte, byte_in, has_star_name, has_pair, is_digit_of, is_digit_or_line, radix_of, is_literal, is_based, digit_value, IsLongestToken, HasNone, based_radix, kind_of, only, is_variable_name, marks_kind, TokenKind}
use Rattle.std.proofs.lemmas.List.Sums.{prefix_len-le-length}

bool-cases : (b : Bool) → (b ≡ true) ⊎ (b ≡ false)
bool-cases true = inl refl
bool-cases false = inr refl

and-false : (b : Bool) → (b && false) ≡ false
and-false true = refl
and-false false = refl

or-true : (b : Bool) → (b || true) ≡ true
or-true true = refl
or-true false = refl

-- a run is the longest string of a class
all-short : (p : ℕ → Bool) (bs : List ℕ) (m : ℕ) → m ≤ prefix_len p bs → list_all p (take m bs) ≡ true
all-short p bs zero le = refl
all-short p [] (suc m) le = absurd (omega arith)
all-short p (b ∷ bs) (suc m) le = elim (bool-cases (p b)) [
  | inl t ↦ let less : suc m ≤ 1 + prefix_len p bs = rw t at le in rw t (all-short p bs m (omega arith))
  | inr f ↦ let less : suc m ≤ 0 = rw f at le in absurd (omega arith)
]

all-long : (p : ℕ → Bool) (bs : List ℕ) (m : ℕ) → prefix_len p bs < m → m ≤ length bs → list_all p (take m bs) ≡ false
all-long p bs zero lt le = absurd (omega arith)
all-long p [] (suc m) lt le = absurd (omega arith)
all-long p (b ∷ bs) (suc m) lt le = elim (bool-cases (p b)) [
  | inl t ↦ let less : 1 + prefix_len p bs < suc m = rw t at lt in rw t (all-long p bs m (omega arith) (omega arith))
  | inr f ↦ rw f refl
]

-- how many bytes of a text are the longest string of a set
pub record IsSpan (s : List ℕ → Bool) (bs : List ℕ) (n : ℕ) : Type 0 where
  pub within : n ≤ length bs
  pub holds : s (take n bs) ≡ true
  pub longer : (m : ℕ) → n < m → m ≤ length bs → s (take m bs) ≡ false

pub class-span : (p : ℕ → Bool) (bs : List ℕ) → IsSpan (list_all p) bs (prefix_len p bs)
class-span p bs = record {
  within = prefix_len-le-length p bs;
  holds = all-short p bs (prefix_len p bs) (omega arith);
  longer = λ m lt le. all-long p bs m lt le;
}

lift : (a : ℕ) (bs : List ℕ) (s : List ℕ → Bool) (k : List ℕ → TokenKind) (n : ℕ) → ((cs : List ℕ) → kind_of (a ∷ cs) ≡ only (s cs) (k (a ∷ cs))) → IsSpan s bs n → IsLongestToken (a ∷ bs) (suc n) (k (a ∷ take n bs))
lift a bs s k n is h = record {
  some = omega arith;
  within = omega (arith, h.within);
  kind = is (take n bs) ∙ ap (λ b. only b (k (a ∷ take n bs))) h.holds;
  longest = longest;
}
  where
    longest : (m : ℕ) → suc n < m → m ≤ length (a ∷ bs) → kind_of (take m (a ∷ bs)) ≡ None
    longest zero lt le = absurd (omega arith)
    longest (suc m) lt le = is (take m bs) ∙ ap (λ b. only b (k (a ∷ take m bs))) (h.longer m (omega arith) (omega arith))

lift-none : (a : ℕ) (bs : List ℕ) (s : List ℕ → Bool) (k : List ℕ → TokenKind) → ((cs : List ℕ) → kind_of (a ∷ cs) ≡ only (s cs) (k (a ∷ cs))) → ((m : ℕ) → m ≤ length bs → s (take m bs) ≡ false) → HasNone (a ∷ bs)
lift-none a bs s k is h zero le = refl
lift-none a bs s k is h (suc m) le = is (take m bs) ∙ ap (λ b. only b (k (a ∷ take m bs))) (h m (omega arith))

pub moved : (bs cs : List ℕ) (n m : ℕ) (k l : TokenKind) → bs ≡ cs → n ≡ m → k ≡ l → IsLongestToken bs n k → IsLongestToken cs m l
moved bs cs n m k l e f g h = subst (λ v. IsLongestToken v m l) e (subst (λ v. IsLongestToken bs v l) f (subst (λ v. IsLongestToken bs n v) g h))

-- the rest of a text from a place on
pub head-at : (text : List ℕ) (start : ℕ) → start < length text → drop start text ≡ byte_in text start ∷ drop (start + 1) text
head-at text start lt = drop_more text start 256 lt

-- at a place of a text
pub span-at : (text : List ℕ) (start end n : ℕ) (s : List ℕ → Bool) (k : List ℕ → TokenKind) (kind : TokenKind) → start < length text → end ≡ start + 1 + n → ((cs : List ℕ) → kind_of (byte_in text start ∷ cs) ≡ only (s cs) (k (byte_in text start ∷ cs))) → IsSpan s (drop (start + 1) text) n → kind ≡ k (slice_range text start end) → IsLongestToken (drop start text) (end - start) kind
span-at text start end n s k kind lt e is h kind_is =
    let size : end - start ≡ suc n = omega arith in
    let front : take (end - start) (drop start text) ≡ byte_in text start ∷ take n (drop (start + 1) text) = ap (λ v. take v (drop start text)) size ∙ ap (take (suc n)) (head-at text start lt) in
    moved _ _ _ _ _ _ (sym (head-at text start lt)) (sym size) (sym (kind_is ∙ ap k front)) (lift (byte_in text start) (drop (start + 1) text) s k n is h)

pub none-at : (text : List ℕ) (start : ℕ) (s : List ℕ → Bool) (k : List ℕ → TokenKind) → start < length text → ((cs : List ℕ) → kind_of (byte_in text start ∷ cs) ≡ only (s cs) (k (byte_in text start ∷ cs))) → ((m : ℕ) → m ≤ length (drop (start + 1) text) → s (take m (drop (start + 1) text)) ≡ false) → HasNone (drop start text)
none-at text start s k lt is h = subst HasNone (sym (head-at text start lt)) (lift-none (byte_in text start) (drop (start + 1) text) s k is h)

-- names of type variables
pub name-empty : (bs : List ℕ) (m : ℕ) → length bs ≡ 0 → is_variable_name (take m bs) ≡ false
name-empty [] zero e = refl
name-empty [] (suc m) e = refl
name-empty (b ∷ bs) m e = absurd (omega arith)

pub name-first : (b : ℕ) (bs : List ℕ) (m : ℕ) → is_lower b ≡ false → is_variable_name (take m (b ∷ bs)) ≡ false
name-first b bs zero e = refl
name-first b bs (suc m) e = rw e refl

pub name-line : (b : ℕ) (bs : List ℕ) (m : ℕ) → b ≡ 95 → prefix_len is_word_byte bs ≡ 0 → m ≤ length (b ∷ bs) → is_variable_name (take m (b ∷ bs)) ≡ false
name-line b bs zero e none le = refl
name-line b bs (suc zero) e none le = ap (λ v. is_variable_name (v ∷ [])) e
name-line b bs (suc (suc m)) e none le = rw (all-long is_word_byte bs (suc m) (omega arith) (omega arith), and-false) refl

not-line : (b : ℕ) (bs : List ℕ) (n : ℕ) → n ≤ length bs → (b ≡ 95 → 0 < n) → is_same_word (b ∷ take n bs) (95 ∷ []) ≡ false
not-line b bs zero le more = elim (bool-cases (nat_eq b 95)) [
  | inl t ↦ let lt = more (eqb-true b 95 t) in absurd (omega arith)
  | inr f ↦ rw f refl
]
not-line b [] (suc n) le more = absurd (omega arith)
not-line b (c ∷ bs) (suc n) le more = and-false (nat_eq b 95)

pub name-span : (b : ℕ) (bs : List ℕ) → is_lower b ≡ true → (b ≡ 95 → 0 < prefix_len is_word_byte bs) → IsSpan is_variable_name (b ∷ bs) (suc (prefix_len is_word_byte bs))
name-span b bs low more =
    let n = prefix_len is_word_byte bs in
    let within = prefix_len-le-length is_word_byte bs in
    record {
      within = omega (arith, within);
      holds = rw (low, all-short is_word_byte bs n (omega arith), not-line b bs n within more) refl;
      longer = longer;
    }
  where
    longer : (m : ℕ) → suc (prefix_len is_word_byte bs) < m → m ≤ length (b ∷ bs) → is_variable_name (take m (b ∷ bs)) ≡ false
    longer zero lt le = absurd (omega arith)
    longer (suc m) lt le = rw (all-long is_word_byte bs m (omega arith) (omega arith), and-false) refl

-- integer literals
as-letter : (x c : ℕ) → nat_eq x c ≡ true → is_digit_or_line 10 c ≡ false → is_digit_or_line 10 x ≡ false
as-letter x c e f = ap (is_digit_or_line 10) (eqb-true x c e) ∙ f

letter-no-digit : (x : ℕ) → radix_of x ≢ 0 → is_digit_or_line 10 x ≡ false
letter-no-digit x e = elim (bool-cases (nat_eq x 120)) [
  | inl t ↦ as-letter x 120 t refl
  | inr f1 ↦
      elim (bool-cases (nat_eq x 88)) [
        | inl t ↦ as-letter x 88 t refl
        | inr f2 ↦
            elim (bool-cases (nat_eq x 111)) [
              | inl t ↦ as-letter x 111 t refl
              | inr f3 ↦
                  elim (bool-cases (nat_eq x 79)) [
                    | inl t ↦ as-letter x 79 t refl
                    | inr f4 ↦
                        elim (bool-cases (nat_eq x 98)) [
                          | inl t ↦ as-letter x 98 t refl
                          | inr f5 ↦
                              elim (bool-cases (nat_eq x 66)) [ inl t ↦ as-letter x 66 t refl | inr f6 ↦ absurd (e (rw (f1, f2, f3, f4, f5, f6) refl)) ]
                        ]
                  ]
            ]
      ]
]

none-below : (v : ℕ) → nat_lt v 0 ≡ false
none-below v = grind (arith, nat_tests)

pub based-span : (a x d : ℕ) (bs : List ℕ) → nat_eq a 48 ≡ true → radix_of x ≢ 0 → is_digit_of (radix_of x) d ≡ true → IsSpan (λ cs. is_literal (a ∷ cs)) (x ∷ d ∷ bs) (suc (suc (prefix_len (is_digit_or_line (radix_of x)) bs)))
based-span a x d bs zero_is some digit =
    let p = is_digit_or_line (radix_of x) in
    let within = prefix_len-le-length p bs in
    record {
      within = omega (arith, within);
      holds = rw (zero_is, digit, all-short p bs (prefix_len p bs) (omega arith)) (or-true _);
      longer = longer;
    }
  where
    longer : (m : ℕ) → suc (suc (prefix_len (is_digit_or_line (radix_of x)) bs)) < m → m ≤ length (x ∷ d ∷ bs) → is_literal (a ∷ take m (x ∷ d ∷ bs)) ≡ false
    longer zero lt le = absurd (omega arith)
    longer (suc zero) lt le = absurd (omega arith)
    longer (suc (suc m)) lt le = rw (letter-no-digit x some, all-long (is_digit_or_line (radix_of x)) bs m (omega arith) (omega arith), and-false, and-false) refl

pub decimal-span : (a : ℕ) (bs : List ℕ) → is_digit a ≡ true → based_radix (a ∷ bs) ≡ 0 → IsSpan (λ cs. is_literal (a ∷ cs)) bs (prefix_len (is_digit_or_line 10) bs)
decimal-span a bs digit plain = record {
  within = prefix_len-le-length (is_digit_or_line 10) bs;
  holds = rw (digit, all-short (is_digit_or_line 10) bs (prefix_len (is_digit_or_line 10) bs) (omega arith)) refl;
  longer = λ m lt le. rw (all-long (is_digit_or_line 10) bs m lt le, and-false) (no-based bs m plain);
}
  where
    no-based : (bs : List ℕ) (m : ℕ) → based_radix (a ∷ bs) ≡ 0 → is_based (a ∷ take m bs) ≡ false
    no-based bs zero e = refl
    no-based [] (suc m) e = refl
    no-based (x ∷ bs) (suc zero) e = refl
    no-based (x ∷ []) (suc (suc m)) e = refl
    no-based (x ∷ d ∷ bs) (suc (suc m)) e = elim (bool-cases (nat_eq a 48 && is_digit_of (radix_of x) d)) [
      | inl t ↦ let r : radix_of x ≡ 0 = sym (ap (λ b. if b then radix_of x else 0) t) ∙ e in
          let f : true ≡ false = sym t ∙ ap (λ v. nat_eq a 48 && is_digit_of v d) r ∙ ap (λ v. nat_eq a 48 && v) (none-below (digit_value d)) ∙ and-false (nat_eq a 48) in
          cc
      | inr f ↦ rw f refl
    ]

-- marks
pub marks-longer : (a : ℕ) (bs : List ℕ) (m : ℕ) → has_star_name (a ∷ bs) ≡ false → has_pair 124 124 (a ∷ bs) ≡ false → 1 < m → m ≤ length (a ∷ bs) → marks_kind (take m (a ∷ bs)) ≡ None
marks-longer a bs zero s p lt le = absurd (omega arith)
marks-longer a bs (suc zero) s p lt le = absurd (omega arith)
marks-longer a [] (suc (suc m)) s p lt le = absurd (omega arith)
marks-longer a (b ∷ bs) (suc (suc zero)) s p lt le = rw p refl
marks-longer a (b ∷ []) (suc (suc (suc m))) s p lt le = absurd (omega arith)
marks-longer a (b ∷ c ∷ bs) (suc (suc (suc zero))) s p lt le = rw s refl
marks-longer a (b ∷ c ∷ []) (suc (suc (suc (suc m)))) s p lt le = absurd (omega arith)
marks-longer a (b ∷ c ∷ d ∷ bs) (suc (suc (suc (suc m)))) s p lt le = refl
