-- What words are told by: numbers, names of variables and parameters, words of the syntax, and all others.
use Rattle.std.proofs.Common.{◌≡◌, ◌≢◌, ℕ, ℤ, pos, negsuc, suc, ◌<◌, ◌≤◌, ◌^◌, ◌==◌, ◌&&◌, ◌||◌, Bool, true, false, if◌then◌else◌, List, [], ◌∷◌, ◌++◌, length, codes, bytes_eq, refl, sym, ap, ◌∙◌, arith}
use Rattle.std.specs.List.{list_any, position_or_len}
use Rattle.std.specs.Fmt.{decimal, signed_decimal}
use Rattle.std.specs.Str.Parse.{AllDigits, digits_value}
use Rattle.std.proofs.lemmas.Bool.Decides.{nat_tests}
use Rattle.std.proofs.lemmas.List.Folds.{list_any-append}
use Rattle.std.proofs.lemmas.Slice.Eq.{bytes_eq-Decides}
use Rattle.std.proofs.lemmas.Fmt.{decimal_is_IsNumeral_wide}
use Rattle.std.proofs.lemmas.Str.Parse.{digit_from_value}
use Rattle.part_texts.specs.smt_law.s_expressions.Sexps.{IsWord, breaks}
use Rattle.part_texts.specs.smt_law.Plain.{is_decimal_digit, all_digits, begins_number, is_local, syntax_words, is_reserved, IsFreeWord}
use Rattle.part_texts.specs.smt_law.Law.{integer_fits}
use Rattle.part_texts.proofs.smt_law.Back.{Number, Local, Syntax, Free, role, negative, integer_of}
use Rattle.std.proofs.lemmas.Bool.{and_from as and_true, or_left, and_right as and_second, or_right}

pub or_false : (a b : Bool) → a ≡ false → b ≡ false → (a || b) ≡ false
or_false true b h k = absurd (cc)
or_false false b h k = k

-- ---- roles
pub free_role : (w : List ℕ) → IsFreeWord w → role w ≡ Free
free_role w p = λ i. if p.no_number i then Number else (if p.no_local i then Local else (if p.no_syntax i then Syntax (position_or_len (bytes_eq w) syntax_words) else Free))

number_role : (w : List ℕ) → begins_number w ≡ true → role w ≡ Number
number_role w p = λ i. if p i then Number else (if is_local w then Local else (if is_reserved w then Syntax (position_or_len (bytes_eq w) syntax_words) else Free))

local_role : (w : List ℕ) → begins_number w ≡ false → is_local w ≡ true → role w ≡ Local
local_role w p q = λ i. if p i then Number else (if q i then Local else (if is_reserved w then Syntax (position_or_len (bytes_eq w) syntax_words) else Free))

-- ---- digits
digit : (c : ℕ) → 48 ≤ c → c ≤ 57 → is_decimal_digit c ≡ true
digit c low high = grind (arith, nat_tests)

digits : (ds : List ℕ) → AllDigits 10 ds → all_digits ds ≡ true
digits [] d = refl
digits (c ∷ cs) d = let k = digit_from_value c d.0 in and_true (is_decimal_digit c) (all_digits cs) (digit c (omega (arith, k)) (omega (arith, k))) (digits cs d.1)

digit_no_break : (c : ℕ) → 48 ≤ c → c ≤ 57 → breaks c ≡ false
digit_no_break c low high = grind (arith, nat_tests)

pub digits_whole : (ds : List ℕ) → AllDigits 10 ds → list_any breaks ds ≡ false
digits_whole [] d = refl
digits_whole (c ∷ cs) d = let k = digit_from_value c d.0 in or_false (breaks c) (list_any breaks cs) (digit_no_break c (omega (arith, k)) (omega (arith, k))) (digits_whole cs d.1)

digits_begin : (ds : List ℕ) → AllDigits 10 ds → 0 < length ds → begins_number ds ≡ true
digits_begin [] d some = absurd (omega arith)
digits_begin (c ∷ []) d some = let k = digit_from_value c d.0 in digit c (omega (arith, k)) (omega (arith, k))
digits_begin (c ∷ e ∷ cs) d some = let k = digit_from_value c d.0 in or_left (is_decimal_digit c) ((c == 45) && is_decimal_digit e) (digit c (omega (arith, k)) (omega (arith, k)))

minus_begins : (ds : List ℕ) → AllDigits 10 ds → 0 < length ds → begins_number (45 ∷ ds) ≡ true
minus_begins [] d some = absurd (omega arith)
minus_begins (e ∷ cs) d some = let k = digit_from_value e d.0 in digit e (omega (arith, k)) (omega (arith, k))

digits_positive : (ds : List ℕ) → AllDigits 10 ds → 0 < length ds → integer_of ds ≡ pos (digits_value 10 ds)
digits_positive [] d some = absurd (omega arith)
digits_positive (c ∷ cs) d some =
    let k = digit_from_value c d.0 in
    let e : (c == 45) ≡ false = grind (arith, nat_tests) in
    λ i. if e i then negative (digits_value 10 cs) else pos (digits_value 10 (c ∷ cs))

-- ---- numbers
pub record IsNumberWord (z : ℤ) (w : List ℕ) : Type 0 where
  pub proper : IsWord w
  pub told : role w ≡ Number
  pub value : integer_of w ≡ z

positive_word : (n : ℕ) → n < 10 ^ 64 → IsNumberWord (pos n) (decimal n)
positive_word n h =
    let d = decimal_is_IsNumeral_wide n h in record {
      proper = record { some = d.0.0; whole = digits_whole (decimal n) d.0.1 };
      told = number_role (decimal n) (digits_begin (decimal n) d.0.1 d.0.0);
      value = digits_positive (decimal n) d.0.1 d.0.0 ∙ ap pos d.1;
    }

negative_word : (n : ℕ) → suc n < 10 ^ 64 → IsNumberWord (negsuc n) (45 ∷ decimal (suc n))
negative_word n h =
    let d = decimal_is_IsNumeral_wide (suc n) h in record {
      proper = record { some = omega arith; whole = digits_whole (decimal (suc n)) d.0.1 };
      told = number_role (45 ∷ decimal (suc n)) (minus_begins (decimal (suc n)) d.0.1 d.0.0);
      value = ap negative d.1;
    }

pub number_word : (z : ℤ) → integer_fits z → IsNumberWord z (signed_decimal z)
number_word (pos n) h = positive_word n (omega arith)
number_word (negsuc n) h = negative_word n (omega arith)

-- ---- names of variables and parameters
digits_local : (c : ℕ) (ds : List ℕ) → ((c == 99) || (c == 120)) ≡ true → AllDigits 10 ds → 0 < length ds → is_local (c ∷ ds) ≡ true
digits_local c [] h d some = absurd (omega arith)
digits_local c (e ∷ cs) h d some = and_true ((c == 99) || (c == 120)) (all_digits (e ∷ cs)) h (digits (e ∷ cs) d)

pub letter_no_number : (c : ℕ) (ds : List ℕ) → is_decimal_digit c ≡ false → (c == 45) ≡ false → begins_number (c ∷ ds) ≡ false
letter_no_number c [] h k = h
letter_no_number c (e ∷ cs) h k = λ i. h i || (k i && is_decimal_digit e)

pub record IsLocalWord (letter n : ℕ) (w : List ℕ) : Type 0 where
  pub proper : IsWord w
  pub told : role w ≡ Local
  pub named : is_local w ≡ true

letter_word : (c n : ℕ) → ((c == 99) || (c == 120)) ≡ true → breaks c ≡ false → is_decimal_digit c ≡ false → (c == 45) ≡ false → n < 10 ^ 64 → IsLocalWord c n (c ∷ decimal n)
letter_word c n is whole no_digit no_minus h =
    let d = decimal_is_IsNumeral_wide n h in
    let local = digits_local c (decimal n) is d.0.1 d.0.0 in record {
      proper = record { some = omega arith; whole = or_false (breaks c) (list_any breaks (decimal n)) whole (digits_whole (decimal n) d.0.1) };
      told = local_role (c ∷ decimal n) (letter_no_number c (decimal n) no_digit no_minus) local;
      named = local;
    }

pub variable_word : (n : ℕ) → n < 10 ^ 64 → IsLocalWord 120 n (120 ∷ decimal n)
variable_word n h = letter_word 120 n refl refl refl refl h

pub parameter_word : (n : ℕ) → n < 10 ^ 64 → IsLocalWord 99 n (99 ∷ decimal n)
parameter_word n h = letter_word 99 n refl refl refl refl h

pub decimal_value : (n : ℕ) → n < 10 ^ 64 → digits_value 10 (decimal n) ≡ n
decimal_value n h = (decimal_is_IsNumeral_wide n h).1

-- ---- words with `_`, as each name of a table has
abbrev pub has_underscore : List ℕ → Bool
has_underscore w = list_any (λ c. c == 95) w

pub name_underscore : (x ds : List ℕ) → has_underscore (x ++ 95 ∷ ds) ≡ true
name_underscore x ds = list_any-append (λ c. c == 95) x (95 ∷ ds) ∙ or_right (has_underscore x) true refl

underscore_no_digit : (c : ℕ) → (c == 95) ≡ true → is_decimal_digit c ≡ false
underscore_no_digit c h = grind (arith, nat_tests)

underscore_no_letter : (c : ℕ) → (c == 95) ≡ true → ((c == 99) || (c == 120)) ≡ false
underscore_no_letter c h = grind (arith, nat_tests)

underscore_no_digits : (ds : List ℕ) → has_underscore ds ≡ true → all_digits ds ≡ false
underscore_no_digits [] h = absurd (cc)
underscore_no_digits (c ∷ cs) h = elim (c == 95) as (λ b. (c == 95) ≡ b → (b || has_underscore cs) ≡ true → (is_decimal_digit c && all_digits cs) ≡ false) [
  | true ↦ λ e _. ap (λ b. b && all_digits cs) (underscore_no_digit c e)
  | false ↦ λ e k. and_second (is_decimal_digit c) (all_digits cs) (underscore_no_digits cs k)
] refl h

pub underscore_no_local : (w : List ℕ) → has_underscore w ≡ true → is_local w ≡ false
underscore_no_local [] h = refl
underscore_no_local (c ∷ []) h = refl
underscore_no_local (c ∷ x ∷ cs) h = elim (c == 95) as (λ b. (c == 95) ≡ b → (b || has_underscore (x ∷ cs)) ≡ true → (((c == 99) || (c == 120)) && all_digits (x ∷ cs)) ≡ false) [
  | true ↦ λ e _. ap (λ b. b && all_digits (x ∷ cs)) (underscore_no_letter c e)
  | false ↦ λ e k. and_second ((c == 99) || (c == 120)) (all_digits (x ∷ cs)) (underscore_no_digits (x ∷ cs) k)
] refl h

pub underscore_differs : (w v : List ℕ) → has_underscore w ≡ true → has_underscore v ≡ false → w ≢ v
underscore_differs w v h k e = let q : true ≡ false = sym h ∙ ap has_underscore e ∙ k in absurd (cc)

pub other_word : (w v : List ℕ) → w ≢ v → bytes_eq w v ≡ false
other_word w v h = elim (bytes_eq w v) as (λ b. bytes_eq w v ≡ b → b ≡ false) [
  | true ↦ λ e. absurd (h ((bytes_eq-Decides w v).0 e))
  | false ↦ λ e. refl
] refl

none_of : (w : List ℕ) (vs : List (List ℕ)) → has_underscore w ≡ true → list_any has_underscore vs ≡ false → list_any (bytes_eq w) vs ≡ false
none_of w [] h k = refl
none_of w (v ∷ vs) h k = elim (has_underscore v) as (λ b. has_underscore v ≡ b → (b || list_any has_underscore vs) ≡ false → (bytes_eq w v || list_any (bytes_eq w) vs) ≡ false) [
  | true ↦ λ e q. absurd (cc)
  | false ↦ λ e q. or_false (bytes_eq w v) (list_any (bytes_eq w) vs) (other_word w v (underscore_differs w v h e)) (none_of w vs h q)
] refl k

pub underscore_no_syntax : (w : List ℕ) → has_underscore w ≡ true → is_reserved w ≡ false
underscore_no_syntax w h = none_of w syntax_words h refl

-- `=` is free
pub equals_free : IsFreeWord (codes "=")
equals_free = record { proper = record { some = omega arith; whole = refl }; no_number = refl; no_local = refl; no_syntax = refl }
