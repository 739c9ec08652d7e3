-- Classes of bytes, letters and digits those of ASCII.
use Rattle.std.specs.Prelude.{ℕ, Bool, not, ◌&&◌, ◌||◌, nat_eq, nat_le, List, codes}
use Rattle.tokens_why.specs.Common.{list_any}

abbrev pub is_between : ℕ → ℕ → ℕ → Bool
is_between low high b = nat_le low b && nat_le b high

-- space, tab, line feed, carriage return
abbrev pub is_blank : ℕ → Bool
is_blank b = nat_eq b 32 || nat_eq b 9 || nat_eq b 10 || nat_eq b 13

abbrev pub is_digit : ℕ → Bool
is_digit b = is_between 48 57 b

abbrev pub is_upper : ℕ → Bool
is_upper b = is_between 65 90 b

-- a lower-case letter or `_`
abbrev pub is_lower : ℕ → Bool
is_lower b = is_between 97 122 b || nat_eq b 95

-- a byte with which a word may begin
abbrev pub is_letter : ℕ → Bool
is_letter b = is_lower b || is_upper b

-- a byte with which a word may go on: `'` is 39
abbrev pub is_word_byte : ℕ → Bool
is_word_byte b = is_letter b || is_digit b || nat_eq b 39

abbrev pub is_one_of : List ℕ → ℕ → Bool
is_one_of cs b = list_any (nat_eq b) cs

-- operators are runs of these
abbrev pub is_operator_byte : ℕ → Bool
is_operator_byte b = is_one_of (codes "!$&?@^#=<>~+-*/\\%") b

-- what may be in an attribute: no `]`
abbrev pub is_no_bracket : ℕ → Bool
is_no_bracket b = not (nat_eq b 93)
