-- Integer literals, decimal or after `0x`, `0o`, `0b`, and their values.
use Rattle.std.specs.Prelude.{ℕ, ◌+◌, ◌-◌, ◌*◌, ◌^◌, Bool, false, ◌&&◌, ◌||◌, nat_eq, nat_lt, if◌then◌else◌, List, [], ◌∷◌, drop}
use Rattle.tokens_why.specs.Common.{get_or, list_all}
use Rattle.tokens_why.specs.Bytes.{is_between, is_digit}

-- the value of a digit, letters of either case counting on from 10
abbrev pub digit_value : ℕ → ℕ
digit_value b = if is_digit b then b
    - 48 else (if is_between 97 122 b then b - 87 else (if is_between 65 90 b then b - 55 else 36))

abbrev pub is_digit_of : ℕ → ℕ → Bool
is_digit_of radix b = nat_lt (digit_value b) radix

-- a byte after the first digit: a digit or `_`
abbrev pub is_digit_or_line : ℕ → ℕ → Bool
is_digit_or_line radix b = is_digit_of radix b || nat_eq b 95

-- the radix that a letter after `0` names, or 0, which has no digits
abbrev pub radix_of : ℕ → ℕ
radix_of b = if nat_eq b 120 || nat_eq b 88 then 16
    else (if nat_eq b 111 || nat_eq b 79 then 8 else (if nat_eq b 98 || nat_eq b 66 then 2 else 0))

abbrev pub is_decimal : List ℕ → Bool
is_decimal [] = false
is_decimal (a ∷ bs) = is_digit a && list_all (is_digit_or_line 10) bs

-- `0`, a radix letter, a digit of that radix, and what may follow it
abbrev pub is_based : List ℕ → Bool
is_based (a ∷ x ∷ d ∷ bs) =
    nat_eq a 48 && is_digit_of (radix_of x) d && list_all (is_digit_or_line (radix_of x)) bs
is_based _ = false

abbrev pub is_literal : List ℕ → Bool
is_literal bs = is_decimal bs || is_based bs

-- the number that digits write after a number; `_` counts for nothing
abbrev pub digits_value : ℕ → ℕ → List ℕ → ℕ
digits_value radix n [] = n
digits_value radix n (b ∷ bs) =
    digits_value radix (if nat_eq b 95 then n else n * radix + digit_value b) bs

-- the value of a literal: a radix letter can only come after a first `0`
abbrev pub literal_value : List ℕ → ℕ
literal_value bs = let radix =
    radix_of (get_or bs 1 0) in
    if nat_eq radix 0 then digits_value 10 0 bs else digits_value radix 0 (drop 2 bs)

-- the greatest value that a literal may have
abbrev pub greatest : ℕ
greatest = 2 ^ 127 - 1
