-- What may be between tokens: blanks, comments and attributes.
use Rattle.std.specs.Prelude.{ℕ, zero, suc, ◌+◌, Bool, not, ◌&&◌, nat_eq, nat_lt, List, [], ◌∷◌, length, drop, Option, Some, None, option_map, unwrap_or, if◌then◌else◌}
use Rattle.tokens_why.specs.Common.{get_or, prefix_len}
use Rattle.tokens_why.specs.Bytes.{is_blank, is_no_bracket}

-- the byte at a place, and no byte after the end
abbrev pub byte_in : List ℕ → ℕ → ℕ
byte_in bs i = get_or bs i 256

abbrev pub has_pair : ℕ → ℕ → List ℕ → Bool
has_pair x y bs = nat_eq (byte_in bs 0) x && nat_eq (byte_in bs 1) y

-- `(*)` is in front
abbrev pub has_star_name : List ℕ → Bool
has_star_name bs = has_pair 40 42 bs && nat_eq (byte_in bs 2) 41

-- `(*` without `)` after it
abbrev pub opens_comment : List ℕ → Bool
opens_comment bs = has_pair 40 42 bs && not (nat_eq (byte_in bs 2) 41)

-- `[@`
abbrev pub opens_attribute : List ℕ → Bool
opens_attribute bs = has_pair 91 64 bs

abbrev pub one_more : Option ℕ → Option ℕ
one_more = option_map (λ n. n + 1)

-- How many bytes it takes to close so many open comments, after so many bytes that are passed over:
-- `(*)` is passed over whole, `(*` opens one more and `*)` closes one. None: they aren't closed.
abbrev pub comment : List ℕ → ℕ → ℕ → Option ℕ
comment [] zero p = Some 0
comment [] (suc d) p = None
comment (a ∷ bs) d (suc p) = one_more (comment bs d p)
comment (a ∷ bs) zero zero = Some 0
comment (a ∷ bs) (suc d) zero = if has_star_name (a ∷ bs) then one_more (comment bs (suc d) 2)
    else (if has_pair 40 42 (a ∷ bs) then one_more (comment bs (suc (suc d)) 1)
    else (if has_pair 42 41 (a ∷ bs) then one_more (comment bs d 1)
    else one_more (comment bs (suc d) zero)))

-- how many bytes an attribute takes, up to and with the next `]`; 0 where there is none
abbrev pub attribute : List ℕ → ℕ
attribute bs = let inside = prefix_len is_no_bracket bs in
    if nat_lt inside (length bs) then inside + 1 else 0

-- How many bytes the blank, comment or attribute in front takes. 0: there is none, or one that
-- isn't closed.
abbrev pub gap_piece : List ℕ → ℕ
gap_piece [] = 0
gap_piece (a ∷ bs) = if is_blank a then 1
    else (if opens_comment (a ∷ bs) then unwrap_or (comment (a ∷ bs) 1 2) 0
    else (if opens_attribute (a ∷ bs) then attribute (a ∷ bs) else 0))

-- how many bytes all that are in front take, after so many bytes of one of them
abbrev pub gap : List ℕ → ℕ → ℕ
gap [] p = 0
gap (a ∷ bs) (suc p) = 1 + gap bs p
gap (a ∷ bs) zero = elim (gap_piece (a ∷ bs)) [ zero ↦ 0 | suc n ↦ 1 + gap bs n ]

-- a number of bytes from a place on
abbrev pub at_from : ℕ → Option ℕ → Option ℕ
at_from i = option_map (λ n. i + n)

-- where the next token begins, or the end of the text, or a byte with which nothing begins
abbrev pub next : List ℕ → ℕ → ℕ
next text at = at + gap (drop at text) 0
