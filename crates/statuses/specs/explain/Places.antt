-- Lines and columns of a file, and where a fault is in it.
use Rattle.std.specs.Prelude.{ℕ, ◌+◌, ◌-◌, ◌==◌, ◌≡◌, ◌⊎◌, ◌≤◌, nat_lt, nat_le, Bool, ◌||◌, if◌then◌else◌, List, [], length, map, take, count_by, get_or, slice_get, Option, Some, None}
use Rattle.std.specs.List.{slice_split}
use Rattle.std.specs.Borrow.{Bor}
use Rattle.tokens_why.specs.declared.token.Token.{Token}
use Rattle.tokens_why.specs.Tokens.{AreTokens}
use Rattle.statuses.specs.declared.explain.table.Counts.{Counts}
use Rattle.statuses.specs.declared.explain.table.Counts.TheVariants.{Nothing, Bytes, Tokens, Lines}
use Rattle.statuses.specs.declared.explain.places.Spot.{Spot}
use Rattle.statuses.specs.declared.explain.places.Spot.TheVariants.{Nowhere, Byte, Line}

-- what slices of bytes hold
abbrev pub bytes_of_parts : List (Bor (List ℕ)) → List (List ℕ)
bytes_of_parts parts = map (λ p. p.now) parts

-- the lines of a text: the parts between line feeds
abbrev pub text_lines : List ℕ → List (List ℕ)
text_lines text = slice_split (λ c. c == 10) text

-- a line by its number, from 1 on; nothing where there is none
abbrev pub line_numbered : List ℕ → ℕ → List ℕ
line_numbered text number = get_or (text_lines text) (number - 1) []

-- The line of a byte is the last one of the text before it.
abbrev pub line_number : List ℕ → ℕ → ℕ
line_number text byte = length (text_lines (take byte text))

-- what is before a byte in its line
abbrev pub line_before : List ℕ → ℕ → List ℕ
line_before text byte = line_numbered (take byte text) (line_number text byte)

-- A character begins at each byte but those that go on with one (UTF-8).
abbrev pub begins_character : ℕ → Bool
begins_character b = nat_lt b 128 || nat_le 192 b

-- Columns count characters, from 1 on.
abbrev pub column_after : List ℕ → ℕ
column_after bytes = count_by begins_character bytes + 1

-- a byte of the text or its end, and else no place
abbrev pub byte_spot : List ℕ → ℕ → Spot
byte_spot text byte = if nat_le byte (length text) then Byte byte else Nowhere

-- A byte that is a place of the text or its end.
abbrev pub IsSpot : List ℕ → Spot → Type 0
IsSpot text (Byte byte) = byte ≤ length text
IsSpot text Nowhere = Unit {0}
IsSpot text (Line number) = Unit {0}

abbrev pub end_of : Option Token → ℕ
end_of None = 0
end_of (Some token) = token.end

abbrev pub start_or : List Token → ℕ → Option Token → Option ℕ
start_or tokens number (Some token) = Some token.start
start_or tokens number None =
    if number == length tokens then Some (end_of (slice_get tokens (number - 1))) else None

-- The byte at which a token begins, by its number from 0 on. The number of tokens stands for the
-- end of the last one.
abbrev pub token_byte : List Token → ℕ → Option ℕ
token_byte tokens number = start_or tokens number (slice_get tokens number)

abbrev pub spot_or : List ℕ → Option ℕ → Spot
spot_or text None = Nowhere
spot_or text (Some byte) = byte_spot text byte

-- where a token of a text stands; nowhere in a text without tokens
abbrev pub TokenStandsAt : List ℕ → ℕ → Spot → Type 0
TokenStandsAt text number spot =
    ((ts : List Token) × AreTokens text ts × (spot ≡ spot_or text (token_byte ts number)))
    ⊎ (((ts : List Token) → AreTokens text ts → ⊥) × (spot ≡ Nowhere))

-- where a fault with this last number stands
abbrev pub StandsAt : List ℕ → Counts → ℕ → Spot → Type 0
StandsAt text Nothing number spot = spot ≡ Nowhere
StandsAt text Bytes number spot = spot ≡ byte_spot text number
StandsAt text Tokens number spot = TokenStandsAt text number spot
StandsAt text Lines number spot = spot ≡ Line number
