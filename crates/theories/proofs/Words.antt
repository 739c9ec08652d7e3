-- Names that are written out, names one after another, and names with a number at the end.
use Rattle.std.proofs.Common.{◌≡◌, ℕ, ◌+◌, ◌/◌, ◌%◌, ◌<◌, ◌≤◌, ◌==◌, ◌&&◌, ◌||◌, nat_eq, nat_le, nat_lt, not, zero, suc, Bool, true, false, if◌then◌else◌, List, [], ◌∷◌, ◌++◌, refl, ap, ◌∙◌, arith}
use Rattle.std.specs.List.{list_all}
use Rattle.std.specs.Fmt.{digit_glyph, digits_onto, digits, decimal}
use Rattle.std.proofs.lemmas.Bool.Decides.{nat_tests}
use Rattle.std.proofs.lemmas.List.Elements.{All-nil, All-cons}
use Rattle.std.proofs.lemmas.List.Folds.{list_all-append}
use Rattle.tasks.specs.Words.{IsPlainByte, IsLineWord, is_name_byte, has_no_number, IsScopedName}
use Rattle.std.proofs.lemmas.Bool.{and_from as joins, and_right as right_false}
use Rattle.tasks.proofs.plain_laws.Bools.{and_both as both, negated}

-- ---- tests

left_false : (a b : Bool) → a ≡ false → (a && b) ≡ false
left_false true b h = absurd (cc)
left_false false b h = refl

denied : (a : Bool) → a ≡ false → not a ≡ true
denied true h = absurd (cc)
denied false h = refl

either : (a b : Bool) → a ≡ true → (not a || b) ≡ true → b ≡ true
either true b h k = k
either false b h k = absurd (cc)

pub all_to : (p q : ℕ → Bool) → ((c : ℕ) → p c ≡ true → q c ≡ true) → (cs : List ℕ) → list_all p cs ≡ true → list_all q cs ≡ true
all_to p q f [] h = refl
all_to p q f (c ∷ cs) h = let m = both (p c) (list_all p cs) h in joins (q c) (list_all q cs) (f c m.0) (all_to p q f cs m.1)

-- a test of each byte below a number
abbrev pub upto : ℕ → (ℕ → Bool) → Bool
upto zero q = true
upto (suc n) q = q n && upto n q

below : (n : ℕ) (q : ℕ → Bool) → upto n q ≡ true → (c : ℕ) → c < n → q c ≡ true
below zero q h c l = absurd (omega arith)
below (suc n) q h c l = at (nat_eq c n) refl (λ m. below n q (both (q n) (upto n q) h).1 c m)
  where
    at : (b : Bool) → nat_eq c n ≡ b → (c < n → q c ≡ true) → q c ≡ true
    at true e more = let same : c ≡ n = grind (arith, nat_tests) in ap q same ∙ (both (q n) (upto n q) h).0
    at false e more = let less : c < n = grind (arith, nat_tests) in more less

-- by computation, of bytes of ASCII
pub implied : (p q : ℕ → Bool) → upto 128 (λ c. not (p c) || q c) ≡ true → (c : ℕ) → c < 128 → p c ≡ true → q c ≡ true
implied p q h c l e = either (p c) (q c) e (below 128 (λ x. not (p x) || q x) h c l)

-- ---- bytes of the parts of a name
abbrev pub is_number_byte : ℕ → Bool
is_number_byte c = nat_le 48 c && nat_le c 57

abbrev pub is_part_byte : ℕ → Bool
is_part_byte c = is_name_byte c && not (nat_eq c 46)

number_low : (c : ℕ) → is_number_byte c ≡ true → c < 128
number_low c e = grind (arith, nat_tests)

number_part : (c : ℕ) → is_number_byte c ≡ true → is_part_byte c ≡ true
number_part c e = implied is_number_byte is_part_byte refl c (number_low c e) e

part_name : (c : ℕ) → is_part_byte c ≡ true → is_name_byte c ≡ true
part_name c e = (both (is_name_byte c) (not (nat_eq c 46)) e).0

parts_named : (cs : List ℕ) → list_all is_part_byte cs ≡ true → list_all is_name_byte cs ≡ true
parts_named cs h = all_to is_part_byte is_name_byte part_name cs h

-- ---- where no number begins
no_dots : (b : ℕ) (cs : List ℕ) → nat_eq b 46 ≡ false → list_all is_part_byte cs ≡ true → has_no_number b cs ≡ true
no_dots b [] e h = refl
no_dots b (c ∷ cs) e h =
    let m = both (is_part_byte c) (list_all is_part_byte cs) h in
    let dot = negated (nat_eq c 46) (both (is_name_byte c) (not (nat_eq c 46)) m.0).1 in
    joins (not (nat_eq b 46 && is_number_byte c)) (has_no_number c cs) (denied (nat_eq b 46 && is_number_byte c) (left_false (nat_eq b 46) (is_number_byte c) e)) (no_dots c cs dot m.1)

follows : (b : ℕ) (w : List ℕ) → has_no_number 46 w ≡ true → has_no_number b w ≡ true
follows b [] h = refl
follows b (c ∷ cs) h =
    let m = both (not (is_number_byte c)) (has_no_number c cs) h in
    joins (not (nat_eq b 46 && is_number_byte c)) (has_no_number c cs) (denied (nat_eq b 46 && is_number_byte c) (right_false (nat_eq b 46) (is_number_byte c) (negated (is_number_byte c) m.0))) m.1

one_then : (b : ℕ) (v w : List ℕ) → has_no_number b v ≡ true → has_no_number 46 w ≡ true → has_no_number b (v ++ w) ≡ true
one_then b [] w h k = follows b w k
one_then b (c ∷ cs) w h k =
    let m = both (not (nat_eq b 46 && is_number_byte c)) (has_no_number c cs) h in
    joins (not (nat_eq b 46 && is_number_byte c)) (has_no_number c (cs ++ w)) m.0 (one_then c cs w m.1 k)

-- ---- names
-- by computation, of a name that is written out
pub written_name : (w : List ℕ) → (list_all is_name_byte w && has_no_number 46 w) ≡ true → IsScopedName w
written_name w e = let m = both (list_all is_name_byte w) (has_no_number 46 w) e in record { bytes = m.0; parts = m.1 }

pub empty_name : IsScopedName []
empty_name = record { bytes = refl; parts = refl }

-- a part: its first byte is no digit
pub part : (c : ℕ) (cs : List ℕ) → is_number_byte c ≡ false → is_part_byte c ≡ true → list_all is_part_byte cs ≡ true → IsScopedName (c ∷ cs)
part c cs d h k =
    let dot = negated (nat_eq c 46) (both (is_name_byte c) (not (nat_eq c 46)) h).1 in
    record {
      bytes = parts_named (c ∷ cs) (joins (is_part_byte c) (list_all is_part_byte cs) h k);
      parts = joins (not (is_number_byte c)) (has_no_number c cs) (denied (is_number_byte c) d) (no_dots c cs dot k);
    }

pub joined : (v w : List ℕ) → IsScopedName v → IsScopedName w → IsScopedName (v ++ w)
joined v w h k = record {
  bytes = list_all-append is_name_byte v w ∙ joins (list_all is_name_byte v) (list_all is_name_byte w) h.bytes k.bytes;
  parts = one_then 46 v w h.parts k.parts;
}

-- ---- numbers
glyph_part : (d : ℕ) → d < 10 → is_part_byte (digit_glyph false d) ≡ true
glyph_part d l = at (nat_lt d 10) refl
  where
    low : (c : ℕ) → 48 ≤ c → c < 58 → is_number_byte c ≡ true
    low c p q = grind (arith, nat_tests)

    at : (b : Bool) → nat_lt d 10 ≡ b → is_part_byte (if b then 48 + d else 87 + d) ≡ true
    at true e = number_part (48 + d) (low (48 + d) (omega arith) (omega (arith, l)))
    at false e = let n : ⊥ = grind (arith, nat_tests) in absurd n

onto_parts : (k n : ℕ) (acc : List ℕ) → list_all is_part_byte acc ≡ true → list_all is_part_byte (digits_onto k 10 false n acc) ≡ true
onto_parts zero n acc h = h
onto_parts (suc k) n acc h =
    let g = digit_glyph false (n % 10) in
    let more = joins (is_part_byte g) (list_all is_part_byte acc) (glyph_part (n % 10) (omega arith)) h in
    choose (n / 10 == 0) (g ∷ acc) (digits_onto k 10 false (n / 10) (g ∷ acc)) more (onto_parts k (n / 10) (g ∷ acc) more)
  where
    choose : (b : Bool) (xs ys : List ℕ) → list_all is_part_byte xs ≡ true → list_all is_part_byte ys ≡ true → list_all is_part_byte (if b then xs else ys) ≡ true
    choose true xs ys p q = p
    choose false xs ys p q = q

decimal_parts : (n : ℕ) → list_all is_part_byte (decimal n) ≡ true
unfolding digits
decimal_parts n = onto_parts 64 n [] refl

-- after a byte that is no dot
pub number_after : (b n : ℕ) → nat_eq b 46 ≡ false → has_no_number b (decimal n) ≡ true
number_after b n e = no_dots b (decimal n) e (decimal_parts n)

pub numbered : (v : List ℕ) (n : ℕ) → list_all is_name_byte v ≡ true → has_no_number 46 (v ++ decimal n) ≡ true → IsScopedName (v ++ decimal n)
numbered v n h k = record {
  bytes = list_all-append is_name_byte v (decimal n) ∙ joins (list_all is_name_byte v) (list_all is_name_byte (decimal n)) h (parts_named (decimal n) (decimal_parts n));
  parts = k;
}

-- ---- such a name is a word of a line
above : (c : ℕ) → nat_le 33 c ≡ true → 32 < c
above c e = grind (arith, nat_tests)

plain : (c : ℕ) → 32 < c → IsPlainByte c
plain c h = (λ e. omega (arith, h, e), λ e. omega (arith, h, e))

bytes_plain : (w : List ℕ) → list_all is_name_byte w ≡ true → IsLineWord w
bytes_plain [] h = All-nil IsPlainByte
bytes_plain (c ∷ cs) h =
    let m = both (is_name_byte c) (list_all is_name_byte cs) h in
    All-cons IsPlainByte c cs (plain c (above c (both (nat_le 33 c) _ m.0).0)) (bytes_plain cs m.1)

pub line_word : (w : List ℕ) → IsScopedName w → IsLineWord w
line_word w h = bytes_plain w h.bytes
