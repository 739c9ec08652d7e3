-- The name under which a symbol is printed: its own name, without those of its scopes, in letters,
-- digits and `_`, an operator's characters spelt out; then `_` and its place.
use Rattle.std.specs.Prelude.{ℕ, ◌+◌, ◌-◌, ◌&&◌, ◌==◌, nat_le, not, Bool, true, false, if◌then◌else◌, List, [], ◌∷◌, ◌++◌, map, length, get_or, decimal, codes}
use Rattle.std.specs.List.{flat_map}

-- what comes after the last dot, or what was found before
abbrev pub after_dots : List ℕ → List ℕ → List ℕ
after_dots found [] = found
after_dots found (c ∷ cs) = if c == 46 then after_dots cs cs else after_dots found cs

-- a name without those of its scopes
abbrev pub own_name : List ℕ → List ℕ
own_name name = after_dots name name

-- the characters of operators, each with its word
abbrev pub operator_words : List (ℕ × List ℕ)
operator_words =
    (33, codes "_bang") ∷ (36, codes "_dollar") ∷ (38, codes "_amp") ∷ (63, codes "_quest")
    ∷ (64, codes "_at") ∷ (94, codes "_caret")
    ∷ (35, codes "_hash") ∷ (61, codes "_eq") ∷ (60, codes "_lt") ∷ (62, codes "_gt")
    ∷ (126, codes "_tilde") ∷ (43, codes "_plus")
    ∷ (45, codes "_minus") ∷ (42, codes "_star") ∷ (47, codes "_slash") ∷ (92, codes "_back")
    ∷ (37, codes "_pct") ∷ []

abbrev pub word_in : List (ℕ × List ℕ) → ℕ → List ℕ
word_in [] c = []
word_in (w ∷ ws) c = if c == w.0 then w.1 else word_in ws c

-- the word of a character, and nothing where it is none of an operator
abbrev pub spelt : ℕ → List ℕ
spelt c = word_in operator_words c

abbrev pub is_some_word : List ℕ → Bool
is_some_word [] = false
is_some_word _ = true

abbrev pub is_spelt_byte : ℕ → Bool
is_spelt_byte c = is_some_word (spelt c)

-- the name of a prefix operator ends in `_`
abbrev pub is_prefix_operator_name : List ℕ → Bool
is_prefix_operator_name cs = get_or cs (length cs - 1) 0 == 95

abbrev pub fixity : Bool → List ℕ
fixity true = codes "prefix"
fixity false = codes "infix"

abbrev pub operator_name : List ℕ → List ℕ
operator_name cs = fixity (is_prefix_operator_name cs) ++ flat_map spelt cs

-- an apostrophe becomes `q`
abbrev pub clean_byte : ℕ → ℕ
clean_byte c = if c == 39 then 113 else c

-- a letter in lower case
abbrev pub lower_case : ℕ → ℕ
lower_case c = if nat_le 65 c && nat_le c 90 then c + 32 else c

-- a first `_` becomes `u_`, and a first letter is in lower case
abbrev pub clean_first : ℕ → List ℕ
clean_first c = if c == 95 then codes "u_" else lower_case (clean_byte c) ∷ []

-- a name in letters, digits and `_`
abbrev pub clean : List ℕ → List ℕ
clean [] = []
clean (c ∷ cs) =
    if is_spelt_byte c then operator_name (c ∷ cs) else clean_first c ++ map clean_byte cs

abbrev pub name_at_place : List ℕ → ℕ → List ℕ
name_at_place name place = clean (own_name name) ++ 95 ∷ decimal place
