-- An integer is read back from its word.
use Rattle.std.proofs.Common.{◌≡◌, ◌≢◌, ℕ, ◌+◌, ◌*◌, ◌-◌, ◌/◌, ◌%◌, ◌<◌, ◌≤◌, ◌==◌, nat_le, nat_lt, ◌&&◌, true, false, zero, suc, List, [], ◌∷◌, ◌++◌, length, get_or, Some, refl, ap, ◌∙◌, arith, ◌^◌, ℤ, pos, negsuc, FitsSigned}
use Rattle.std.specs.Int.{w128}
use Rattle.std.proofs.lemmas.Int.{ints}
use Rattle.std.specs.Option.{option_map}
use Rattle.std.proofs.lemmas.Bool.Decides.{nat_tests}
use Rattle.std.proofs.lemmas.Fmt.{decimal_is_IsNumeral_wide, decimal_by_steps_wide, decimal_digit}
use Rattle.std.proofs.lemmas.Str.Parse.{digit_from_value}
use Rattle.std.proofs.lemmas.Str.{digit_value_digit}
use Rattle.std.specs.Fmt.{decimal, signed_decimal}
use Rattle.std.specs.Char.{digit_value}
use Rattle.std.specs.Str.Parse.{AllDigits, digits_value_after, digits_value}
use Rattle.word_tables.specs.integers.Integers.{number_from, number_below, negative, integer}

pub value_grows : (n : ℕ) (ds : List ℕ) → n ≤ digits_value_after 10 n ds
value_grows n [] = omega arith
value_grows n (c ∷ cs) = omega (arith, value_grows (n * 10 + digit_value c) cs)

one_digit : (bound n c : ℕ) → 48 ≤ c → c ≤ 57 → n * 10 + (c - 48) < bound
    → ((nat_le 48 c && nat_le c 57) && nat_lt (n * 10 + (c - 48)) bound) ≡ true
one_digit bound n c low high fits = grind (arith, nat_tests)

from_digits : (bound n : ℕ) (ds : List ℕ) → AllDigits 10 ds → digits_value_after 10 n ds < bound → number_from bound n ds ≡ Some (digits_value_after 10 n ds)
from_digits bound n [] d h = refl
from_digits bound n (c ∷ cs) d h =
    let k = digit_value_digit c (digit_from_value c d.0) in
    let low : 48 ≤ c = omega (arith, k) in
    let is : c - 48 ≡ digit_value c = omega (arith, k) in
    let high : c ≤ 57 = omega (arith, k, d.0) in
    let g = value_grows (n * 10 + digit_value c) cs in
    let fits : n * 10 + (c - 48) < bound = omega arith in
    rw (one_digit bound n c low high fits) (ap (λ v. number_from bound (n * 10 + v) cs) is ∙ from_digits bound (n * 10 + digit_value c) cs d.1 h)

long_number : (bound c d : ℕ) (cs : List ℕ) → c ≢ 48 → number_below bound (c ∷ d ∷ cs) ≡ number_from bound 0 (c ∷ d ∷ cs)
long_number bound c d cs h =
    let e : (c == 48) ≡ false = grind (arith, nat_tests) in
    rw e refl

digits_number : (bound : ℕ) (ds : List ℕ) → 0 < length ds → AllDigits 10 ds → (get_or ds 0 0 ≡ 48 → length ds ≡ 1) → digits_value 10 ds < bound → number_below bound ds ≡ Some (digits_value 10 ds)
digits_number bound [] some d lead h = absurd (omega arith)
digits_number bound (c ∷ []) some d lead h = from_digits bound 0 (c ∷ []) d h
digits_number bound (c ∷ e ∷ cs) some d lead h = long_number bound c e cs (λ z. omega (arith, lead z)) ∙ from_digits bound 0 (c ∷ e ∷ cs) d h

-- the first digit of a number above 0 is none
Leads : ℕ → List ℕ → Type 0
Leads n ds = (0 < length ds) × (0 < n → 48 < get_or ds 0 0)

leads_more : (n c : ℕ) (ds : List ℕ) → 10 ≤ n → Leads (n / 10) ds → Leads n (ds ++ c ∷ [])
unfolding Leads
leads_more n c [] ten h = absurd (omega (arith, h.0))
leads_more n c (d ∷ ds) ten h = (omega arith, λ some. h.1 (omega arith))

leads_one : (n : ℕ) → n < 10 → Leads n ((48 + n) ∷ [])
unfolding Leads
leads_one n lt = (omega arith, λ some. omega arith)

leads : (n : ℕ) → n < 10 ^ 64 → Leads n (decimal n)
leads n h = decimal_by_steps_wide Leads leads_one (λ m ds ten k. leads_more m (48 + m % 10) ds ten k) n h

no_zero : (n : ℕ) → n < 10 ^ 64 → get_or (decimal n) 0 0 ≡ 48 → length (decimal n) ≡ 1
unfolding Leads
no_zero zero h e = ap length (decimal_digit 0 (omega arith))
no_zero (suc n) h e = let f = (leads (suc n) h).1 (omega arith) in absurd (omega arith)

number_decimal : (bound n : ℕ) → n < 10 ^ 64 → n < bound → number_below bound (decimal n) ≡ Some n
number_decimal bound n h below =
    let d = decimal_is_IsNumeral_wide n h in
    digits_number bound (decimal n) d.0.0 d.0.1 (no_zero n h) (omega (arith, d.1)) ∙ ap Some d.1

-- the first digit of a number isn't a minus
first_digit : (ds : List ℕ) → 0 < length ds → AllDigits 10 ds → (get_or ds 0 0 == 45) ≡ false
first_digit [] some d = absurd (omega arith)
first_digit (c ∷ cs) some d =
    let k = digit_from_value c d.0 in
    let n : c ≢ 45 = λ e. omega (arith, k) in
    grind (arith, nat_tests)

without_sign : (ds : List ℕ) → 0 < length ds → (get_or ds 0 0 == 45) ≡ false → integer ds ≡ option_map pos (number_below 170141183460469231731687303715884105728 ds)
without_sign [] some f = absurd (omega arith)
without_sign (c ∷ cs) some f = rw f refl

pub integer_back : (n : ℕ) → n < 170141183460469231731687303715884105728 → integer (signed_decimal (pos n)) ≡ Some (pos n)
integer_back n h =
    let wide : n < 10 ^ 64 = omega arith in
    let d = decimal_is_IsNumeral_wide n wide in
    without_sign (decimal n) d.0.0 (first_digit (decimal n) d.0.0 d.0.1) ∙ ap (option_map pos) (number_decimal 170141183460469231731687303715884105728 n wide h)

pub negative_back : (n : ℕ) → n < 170141183460469231731687303715884105728 → integer (signed_decimal (negsuc n)) ≡ Some (negsuc n)
negative_back n h =
    let wide : suc n < 10 ^ 64 = omega arith in
    ap (option_map negative) (number_decimal 170141183460469231731687303715884105729 (suc n) wide (omega arith))

pub signed_back : (z : ℤ) → FitsSigned w128 z → integer (signed_decimal z) ≡ Some z
signed_back (pos n) f = integer_back n (omega (arith, ints, f.sfits))
signed_back (negsuc n) f = negative_back n (omega (arith, ints, f.sfits))
