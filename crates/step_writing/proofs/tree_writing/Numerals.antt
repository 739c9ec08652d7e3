-- A number is read back from its decimal digits.
use Rattle.std.proofs.Common.{◌≡◌, ◌≢◌, ℕ, ◌+◌, ◌*◌, ◌-◌, ◌<◌, ◌≤◌, ◌==◌, nat_le, nat_lt, ◌&&◌, true, false, zero, suc, List, [], ◌∷◌, length, get_or, Some, refl, ap, ◌∙◌, arith, ◌^◌}
use Rattle.std.proofs.lemmas.Bool.Decides.{nat_tests}
use Rattle.std.proofs.lemmas.Fmt.{decimal_is_IsNumeral, decimal_digit, first_decimal}
use Rattle.std.proofs.lemmas.Str.Parse.{digit_from_value}
use Rattle.std.proofs.lemmas.Str.{digit_value_digit}
use Rattle.std.specs.Fmt.{decimal}
use Rattle.std.specs.Char.{digit_value}
use Rattle.std.specs.Str.Parse.{AllDigits, digits_value_after, digits_value}
use Rattle.word_tables.specs.integers.Integers.{number_from}
use Rattle.step_lines.specs.tree_lines.Words.{number}
use Rattle.word_tables.proofs.integers.Decimals.{value_grows}

one_digit : (n c : ℕ) → 48 ≤ c → c ≤ 57 → n * 10 + (c - 48) < 18446744073709551616
    → ((nat_le 48 c && nat_le c 57) && nat_lt (n * 10 + (c - 48)) 18446744073709551616) ≡ true
one_digit n c low high fits = grind (arith, nat_tests)

from_digits : (n : ℕ) (ds : List ℕ) → AllDigits 10 ds → digits_value_after 10 n ds < 18446744073709551616 → number_from 18446744073709551616 n ds ≡ Some (digits_value_after 10 n ds)
from_digits n [] d h = refl
from_digits n (c ∷ cs) d h =
    let k = digit_value_digit c (digit_from_value c d.0) in
    let low : 48 ≤ c = omega (arith, k) in
    let is : c - 48 ≡ digit_value c = omega (arith, k) in
    let high : c ≤ 57 = omega (arith, k, d.0) in
    let g = value_grows (n * 10 + digit_value c) cs in
    let fits : n * 10 + (c - 48) < 18446744073709551616 = omega arith in
    rw (one_digit n c low high fits) (ap (λ v. number_from 18446744073709551616 (n * 10 + v) cs) is ∙ from_digits (n * 10 + digit_value c) cs d.1 h)

long_number : (c d : ℕ) (cs : List ℕ) → c ≢ 48 → number (c ∷ d ∷ cs) ≡ number_from 18446744073709551616 0 (c ∷ d ∷ cs)
long_number c d cs h =
    let e : (c == 48) ≡ false = grind (arith, nat_tests) in
    rw e refl

digits_number : (ds : List ℕ) → 0 < length ds → AllDigits 10 ds → (get_or ds 0 0 ≡ 48 → length ds ≡ 1) → digits_value 10 ds < 18446744073709551616 → number ds ≡ Some (digits_value 10 ds)
digits_number [] some d lead h = absurd (omega arith)
digits_number (c ∷ []) some d lead h = from_digits 0 (c ∷ []) d h
digits_number (c ∷ e ∷ cs) some d lead h = long_number c e cs (λ z. omega (arith, lead z)) ∙ from_digits 0 (c ∷ e ∷ cs) d h

no_zero : (n : ℕ) → n < 2 ^ 64 → get_or (decimal n) 0 0 ≡ 48 → length (decimal n) ≡ 1
no_zero zero h e = ap length (decimal_digit 0 (omega arith))
no_zero (suc n) h e = let f = first_decimal (suc n) (omega arith) h in absurd (omega arith)

pub number_decimal : (n : ℕ) → n < 2 ^ 64 → number (decimal n) ≡ Some n
number_decimal n h =
    let d = decimal_is_IsNumeral n h in
    digits_number (decimal n) d.0.0 d.0.1 (no_zero n h) (omega (arith, d.1)) ∙ ap Some d.1
