-- The message of a fault: where it is, its words, its numbers, and the line with a caret.
use Rattle.std.specs.Prelude.{ℕ, ◌-◌, ◌==◌, ◌≡◌, nat_lt, ◌||◌, if◌then◌else◌, List, [], ◌∷◌, ◌++◌, length, map, filter, get_or, Option, Some, None, codes, decimal}
use Rattle.statuses.specs.declared.explain.places.Spot.{Spot}
use Rattle.statuses.specs.declared.explain.places.Spot.TheVariants.{Nowhere, Byte, Line}
use Rattle.statuses.specs.explain.Table.{RowText, row_of}
use Rattle.statuses.specs.explain.Places.{line_numbered, line_number, line_before, begins_character, column_after, StandsAt}

-- each after a blank
abbrev pub spaced_words : List ℕ → List ℕ
spaced_words [] = []
spaced_words (n ∷ ns) = 32 ∷ decimal n ++ spaced_words ns

-- a byte as it is shown: a control character but a tab is a blank
abbrev pub shown : ℕ → ℕ
shown b = if b == 9 then 9 else (if nat_lt b 32 || b == 127 then 32 else b)

-- what is under a character before the caret
abbrev pub under_character : ℕ → ℕ
under_character b = if b == 9 then 9 else 32

-- a line, ended by a line feed
abbrev pub shown_line : List ℕ → List ℕ
shown_line bytes = map shown bytes ++ 10 ∷ []

-- a caret after what is before it
abbrev pub caret_line : List ℕ → List ℕ
caret_line bytes = map under_character (filter begins_character bytes) ++ codes "^\n"

-- a line that isn't empty
abbrev pub line_if_any : List ℕ → List ℕ
line_if_any [] = []
line_if_any (c ∷ cs) = shown_line (c ∷ cs)

abbrev pub place_text : List ℕ → Spot → List ℕ
place_text text Nowhere = []
place_text text (Byte byte) =
    decimal (line_number text byte) ++ codes ":" ++ decimal (column_after (line_before text byte))
    ++ codes ":"
place_text text (Line number) = decimal number ++ codes ":"

abbrev pub excerpt : List ℕ → Spot → List ℕ
excerpt text Nowhere = []
excerpt text (Byte byte) =
    shown_line (line_numbered text (line_number text byte)) ++ caret_line (line_before text byte)
excerpt text (Line number) = line_if_any (line_numbered text number)

-- the words, and the fault as its line has it
abbrev pub head_line : List ℕ → List ℕ → List ℕ → List ℕ → List ℕ
head_line name place words fault =
    name ++ codes ":" ++ place ++ codes " " ++ words ++ codes " (refused:" ++ spaced_words fault
    ++ codes ")\n"

abbrev pub message : List ℕ → List ℕ → List ℕ → RowText → Spot → List ℕ
message name text fault row spot =
    head_line name (place_text text spot) row.words fault ++ excerpt text spot

abbrev pub row_if_fits : List ℕ → Option RowText → Option RowText
row_if_fits fields None = None
row_if_fits fields (Some row) = if row.fields == length fields then Some row else None

-- the row of a fault, a code and as many numbers as the row says
abbrev pub row_for : List ℕ → Option RowText
row_for [] = None
row_for (code ∷ fields) = row_if_fits fields (row_of code)

abbrev pub last_of : List ℕ → ℕ
last_of fault = get_or fault (length fault - 1) 0

abbrev pub ExplainsBy : Option RowText → List ℕ → List ℕ → List ℕ → Option (List ℕ) → Type 0
ExplainsBy None name text fault answer = answer ≡ None
ExplainsBy (Some row) name text fault answer =
    (spot : Spot) × StandsAt text row.counts (last_of fault) spot
    × (answer ≡ Some (message name text fault row spot))

-- the message of a fault in a file of this name and text; none exactly where the numbers are no
-- fault
abbrev pub Explains : List ℕ → List ℕ → List ℕ → Option (List ℕ) → Type 0
Explains name text fault answer = ExplainsBy (row_for fault) name text fault answer
