-- What the strings of a driver say is UTF-8, as their bytes are.
use Rattle.std.proofs.Common.{◌≡◌, ◌<◌, ◌≤◌, ◌+◌, ◌∙◌, ◌⊎◌, inl, inr, ℕ, Bool, true, false, cond, ◌&&◌, ◌||◌, nat_eq, nat_lt, List, [], ◌∷◌, ◌++◌, length, refl, sym, ap, subst, arith}
use Rattle.std.specs.Str.{IsUtf8}
use lib.Utf8.{encode, encodes, scalar, scalars, low_scalar}
use Rattle.std.proofs.lemmas.Bool.{cases_lt}
use Rattle.std.proofs.lemmas.Bool.Decides.{nat_tests}
use Rattle.std.proofs.lemmas.Str.{IsUtf8-nil, IsUtf8-append, IsUtf8-encode, encode_ascii}
use Rattle.drivers.specs.driver_tokens.Strings.{escaped, bytes_said, string_says}
use Rattle.tasks.proofs.plain_laws.Bools.{and_both as both-true}

-- bytes above ASCII
abbrev High : List ℕ → Type 0
High [] = Unit {0}
High (b ∷ bs) = (128 ≤ b) × High bs

high-if : (b : Bool) (xs ys : List ℕ) → High xs → High ys → High (cond b xs ys)
high-if true xs ys h k = h
high-if false xs ys h k = k

high-unless : (b : Bool) (xs ys : List ℕ) → (b ≡ true → ⊥) → High ys → High (cond b xs ys)
high-unless true xs ys n h = absurd (n refl)
high-unless false xs ys n h = h

below : (c : ℕ) → 128 ≤ c → nat_lt c 128 ≡ true → ⊥
below c h e = let f : nat_lt c 128 ≡ false = grind (arith, nat_tests) in cc

next-high : (n : ℕ) → 128 ≤ 128 + n
next-high n = omega arith

high-encode : (c : ℕ) → 128 ≤ c → High (encode c)
unfolding encode
high-encode c h =
    high-unless (nat_lt c 128) (c ∷ []) _ (below c h)
    (high-if (nat_lt c 2048) _ _ (omega arith, (next-high _, tt))
    (high-if (nat_lt c 65536) _ _ (omega arith, (next-high _, (next-high _, tt))) (omega arith, (next-high _, (next-high _, (next-high _, tt))))))

-- they say themselves
other : (b k : ℕ) → k < 128 → 128 ≤ b → nat_eq b k ≡ false
other b k lt h = grind (arith, nat_tests)

said-high : (bs r : List ℕ) → High bs → bytes_said false (bs ++ r) ≡ bs ++ bytes_said false r
said-high [] r h = refl
said-high (b ∷ bs) r h =
    ap (λ v. cond v (bytes_said true (bs ++ r)) (b ∷ bytes_said false (bs ++ r))) (other b 92 (omega arith) h.0) ∙ ap (λ v. b ∷ v) (said-high bs r h.1)

escaped-high : (b : ℕ) → 128 ≤ b → escaped b ≡ 92 ∷ b ∷ []
escaped-high b h =
    ap (λ v. cond (v || nat_eq b 92) (b ∷ []) (cond (nat_eq b 110) (10 ∷ []) (92 ∷ b ∷ []))) (other b 34 (omega arith) h)
    ∙ ap (λ v. cond v (b ∷ []) (cond (nat_eq b 110) (10 ∷ []) (92 ∷ b ∷ []))) (other b 92 (omega arith) h)
    ∙ ap (λ v. cond v (10 ∷ []) (92 ∷ b ∷ [])) (other b 110 (omega arith) h)

said-following : (bs r : List ℕ) → High bs → 0 < length bs → bytes_said true (bs ++ r) ≡ 92 ∷ (bs ++ bytes_said false r)
said-following [] r h lt = absurd (omega arith)
said-following (b ∷ bs) r h lt = ap (λ v. v ++ bytes_said false (bs ++ r)) (escaped-high b h.0) ∙ ap (λ v. 92 ∷ b ∷ v) (said-high bs r h.1)

one : (c : ℕ) → c < 128 → IsUtf8 (c ∷ [])
one c lt = subst IsUtf8 (encode_ascii c lt) (IsUtf8-encode c (low_scalar c (omega arith)))

text-if : (b : Bool) (xs ys : List ℕ) → IsUtf8 xs → IsUtf8 ys → IsUtf8 (cond b xs ys)
text-if true xs ys h k = h
text-if false xs ys h k = k

escaped-text : (c : ℕ) → c < 128 → IsUtf8 (escaped c)
escaped-text c lt = text-if (nat_eq c 34 || nat_eq c 92) (c ∷ []) _ (one c lt) (text-if (nat_eq c 110) (10 ∷ []) (92 ∷ c ∷ []) (one 10 (omega arith)) (IsUtf8-append (92 ∷ []) (c ∷ []) (one 92 (omega arith)) (one c lt)))

abbrev Says : List ℕ → Type 0
Says bs = IsUtf8 (bytes_said false bs) × IsUtf8 (bytes_said true bs)

low : (c : ℕ) (r : List ℕ) → c < 128 → Says r → Says (c ∷ r)
low c r lt h = (text-if (nat_eq c 92) (bytes_said true r) (c ∷ bytes_said false r) h.1 (IsUtf8-append (c ∷ []) (bytes_said false r) (one c lt) h.0), IsUtf8-append (escaped c) (bytes_said false r) (escaped-text c lt) h.0)

some-encode : (c : ℕ) → 0 < length (encode c)
unfolding encode
some-encode c = grind arith

high : (c : ℕ) (r : List ℕ) → scalar c ≡ true → 128 ≤ c → Says r → Says (encode c ++ r)
high c r s ge h =
    let e = IsUtf8-append (encode c) (bytes_said false r) (IsUtf8-encode c s) h.0 in
    (subst IsUtf8 (sym (said-high (encode c) r (high-encode c ge))) e, subst IsUtf8 (sym (said-following (encode c) r (high-encode c ge) (some-encode c))) (IsUtf8-append (92 ∷ []) (encode c ++ bytes_said false r) (one 92 (omega arith)) e))

says : (cs : List ℕ) → scalars cs ≡ true → Says (encodes cs)
says [] e = (IsUtf8-nil, one 92 (omega arith))
says (c ∷ cs) e =
    let s = both-true (scalar c) (scalars cs) e in
    elim (cases_lt c 128) [
      | inl lt ↦ subst (λ v. Says (v ++ encodes cs)) (sym (encode_ascii c lt)) (low c (encodes cs) lt (says cs s.1))
      | inr ge ↦ high c (encodes cs) s.0 ge (says cs s.1)
    ]

-- a string whose bytes are UTF-8 says what is
pub said-text : (bs : List ℕ) → IsUtf8 bs → IsUtf8 (string_says bs)
said-text bs u = subst (λ v. IsUtf8 (string_says v)) u.1.1 (says u.0 u.1.0).0
