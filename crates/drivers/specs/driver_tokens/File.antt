-- The lines of a driver text, or the byte at which it goes wrong.
use Rattle.std.specs.Prelude.{ℕ, ◌≡◌, List, [], ◌∷◌, ◌++◌, map, length, nat_lt, slice_range, Result, Ok, Err, Vec, if◌then◌else◌}
use Rattle.std.specs.declared.alloc.Global.{Global}
use Rattle.std.specs.Bool.{⊤}
use Rattle.drivers.specs.declared.driver_tokens.fault.DriverSyntaxFault.{DriverSyntaxFault}
use Rattle.drivers.specs.declared.driver_tokens.fault.DriverSyntaxFault.TheVariants as f
use Rattle.drivers.specs.declared.driver_tokens.file.DriverLine.{DriverLine}
use Rattle.drivers.specs.declared.driver_tokens.file.DriverText.{DriverText}
use Rattle.drivers.specs.declared.driver_tokens.token.DriverToken.{DriverToken}
use Rattle.drivers.specs.driver_tokens.Machine.{cut}
use Rattle.drivers.specs.driver_tokens.Tokens.{DriverLexeme, driver_lexemes, lexeme_in}
use Rattle.drivers.specs.driver_tokens.Lines.{byte_of, IsSyntaxFault}

abbrev pub or_byte : ℕ → Result (List (List DriverLexeme)) (List DriverLexeme)
    → Result (List (List DriverLexeme)) ℕ
or_byte end (Ok lines) = Ok lines
or_byte end (Err after) = Err (byte_of after end)

abbrev pub driver_lines : List ℕ → Result (List (List DriverLexeme)) ℕ
driver_lines text = or_byte (length text) (cut (λ x. x.terminal) (driver_lexemes text))

-- the tokens of a line
abbrev pub line_in : List ℕ → List DriverToken → DriverLine → List DriverLexeme
line_in text tokens line = map (lexeme_in text) (slice_range tokens line.first line.end)

-- the lines of the code
abbrev pub lines_in : List ℕ → DriverText → List (List DriverLexeme)
lines_in text its = map (line_in text its.tokens.items) its.lines.items

abbrev pub GivesLines : List ℕ → Result DriverText DriverSyntaxFault
    → Result (List (List DriverLexeme)) ℕ → Type 0
GivesLines text (Ok its) lines = lines ≡ Ok (lines_in text its)
GivesLines text (Err f.Memory) lines = ⊤
GivesLines text (Err (f.Syntax byte)) lines = lines ≡ Err byte

-- a refusal: want of memory, or the byte at which the text goes wrong
abbrev pub IsDriverRefusal : List ℕ → DriverSyntaxFault → Type 0
IsDriverRefusal text f.Memory = ⊤
IsDriverRefusal text (f.Syntax byte) = IsSyntaxFault text byte

-- a line at the end, if it has tokens
abbrev pub with_line : List DriverLine → ℕ → ℕ → List DriverLine
with_line lines first end =
    if nat_lt first end then lines ++ record { first = first; end = end } ∷ [] else lines

-- the tokens of lines, of tokens of the code
abbrev pub tokens_of_lines : List DriverToken → List DriverLine → List (List DriverToken)
tokens_of_lines tokens = map (λ l. slice_range tokens l.first l.end)

abbrev pub token_start : List DriverToken → ℕ → ℕ
token_start [] end = end
token_start (x ∷ xs) end = x.start

-- the lines into which tokens of the code are cut, or where they go wrong
abbrev pub Cuts : List DriverToken → ℕ → Result (Vec DriverLine Global) DriverSyntaxFault → Type 0
Cuts tokens end (Ok lines) = cut (λ x. x.terminal) tokens ≡ Ok (tokens_of_lines tokens lines.items)
Cuts tokens end (Err f.Memory) = ⊤
Cuts tokens end (Err (f.Syntax byte)) =
    (after : List DriverToken) × (cut (λ x. x.terminal) tokens ≡ Err after)
    × (byte ≡ token_start after end)
