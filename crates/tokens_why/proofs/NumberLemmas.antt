-- The number that digits write.
use Rattle.tokens_why.proofs.Common.{◌≡◌, ℕ, ◌+◌, ◌*◌, ◌<◌, ◌≤◌, ◌≢◌, Bool, true, false, nat_eq, if◌then◌else◌, List, [], ◌∷◌, length, drop, get_or, ap, ◌∙◌, arith, nat_tests, drop_more, digits_value, digit_value}
use Rattle.std.proofs.Math.Nat.{mul-le-mul_left}

abbrev joined : Bool → ℕ → ℕ → ℕ → ℕ
joined b radix n d = if b then n else n * radix + d

join-grows : (b : Bool) (radix n d : ℕ) → 0 < radix → n ≤ joined b radix n d
join-grows true radix n d lt = omega arith
join-grows false radix n d lt = let one : 1 ≤ radix = omega arith in let more : n * 1 ≤ n * radix = mul-le-mul_left n one in omega arith

-- more digits make no number smaller
pub number-grows : (radix n : ℕ) (bs : List ℕ) → 0 < radix → n ≤ digits_value radix n bs
number-grows radix n [] lt = omega arith
number-grows radix n (b ∷ bs) lt =
    let g = join-grows (nat_eq b 95) radix n (digit_value b) lt in
    let h = number-grows radix (joined (nat_eq b 95) radix n (digit_value b)) bs lt in
    omega arith

-- with one digit more of those from a place on
pub next-digit : (radix n i : ℕ) (bs : List ℕ) → 0 < radix → i < length bs → get_or bs i 0 ≢ 95 → n * radix + digit_value (get_or bs i 0) ≤ digits_value radix n (drop i bs)
next-digit radix n i bs lt within other =
    let b = get_or bs i 0 in
    let e = drop_more bs i 0 within in
    let f : nat_eq b 95 ≡ false = not-same b 95 other in
    let g = number-grows radix (n * radix + digit_value b) (drop (i + 1) bs) lt in
    let h : digits_value radix n (drop i bs) ≡ digits_value radix (n * radix + digit_value b) (drop (i + 1) bs) = ap (digits_value radix n) e ∙ ap (λ v. digits_value radix (joined v radix n (digit_value b)) (drop (i + 1) bs)) f in
    omega (arith, g, h)
  where
    not-same : (a b : ℕ) → a ≢ b → nat_eq a b ≡ false
    not-same a b n = grind (arith, nat_tests)
