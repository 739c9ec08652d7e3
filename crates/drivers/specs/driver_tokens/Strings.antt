-- Strings in double quotes (Why3 manual, "Drivers"): 34 is the quote, 92 the backslash.
use Rattle.std.specs.Prelude.{ℕ, Bool, true, false, ◌||◌, nat_eq, List, [], ◌∷◌, ◌++◌, Option, Some, None, if◌then◌else◌}
use Rattle.tokens_why.specs.Gap.{one_more}

-- How many bytes there are up to the quote that closes, with it; whether a backslash is before that
-- escapes.
abbrev pub quoted : Bool → List ℕ → Option ℕ
quoted escaped [] = None
quoted true (a ∷ bs) = one_more (quoted false bs)
quoted false (a ∷ bs) = if nat_eq a 34 then Some 1 else one_more (quoted (nat_eq a 92) bs)

-- what a byte after a backslash says with it
abbrev pub escaped : ℕ → List ℕ
escaped a =
    if nat_eq a 34 || nat_eq a 92 then a ∷ [] else (if nat_eq a 110 then 10 ∷ [] else 92 ∷ a ∷ [])

-- what the bytes between the quotes say; whether a backslash is before them
abbrev pub bytes_said : Bool → List ℕ → List ℕ
bytes_said true [] = 92 ∷ []
bytes_said false [] = []
bytes_said true (a ∷ bs) = escaped a ++ bytes_said false bs
bytes_said false (a ∷ bs) = if nat_eq a 92 then bytes_said true bs else a ∷ bytes_said false bs

abbrev pub string_says : List ℕ → List ℕ
string_says = bytes_said false
