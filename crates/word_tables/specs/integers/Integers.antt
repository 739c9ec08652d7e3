-- The integers that words write.
use Rattle.std.specs.Prelude.{ℕ, zero, suc, ◌+◌, ◌*◌, ◌-◌, ◌==◌, nat_le, nat_lt, ◌&&◌, if◌then◌else◌, List, [], ◌∷◌, Option, Some, None, ℤ, pos, negsuc}
use Rattle.std.specs.Option.{option_map}

-- the number of decimal digits that follow those of n, below a bound
abbrev pub number_from : ℕ → ℕ → List ℕ → Option ℕ
number_from bound n [] = Some n
number_from bound n (c ∷ cs) =
    if (nat_le 48 c && nat_le c 57)
    && nat_lt (n * 10 + (c - 48)) bound then number_from bound (n * 10 + (c - 48)) cs else None

-- the number that a word writes in decimal, without leading zeros and below a bound
abbrev pub number_below : ℕ → List ℕ → Option ℕ
number_below bound [] = None
number_below bound (c ∷ []) = number_from bound 0 (c ∷ [])
number_below bound (c ∷ d ∷ cs) = if c == 48 then None else number_from bound 0 (c ∷ d ∷ cs)

abbrev pub negative : ℕ → ℤ
negative zero = pos 0
negative (suc n) = negsuc n

-- the integer of 128 bits that a word writes, after a minus or not
abbrev pub integer : List ℕ → Option ℤ
integer [] = None
integer (c ∷ cs) =
    if c == 45 then option_map negative (number_below 170141183460469231731687303715884105729 cs)
    else option_map pos (number_below 170141183460469231731687303715884105728 (c ∷ cs))
