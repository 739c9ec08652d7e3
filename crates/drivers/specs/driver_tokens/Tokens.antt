-- The tokens of a driver text: each is the longest that begins at its byte.
use Rattle.std.specs.Prelude.{ℕ, zero, suc, ◌+◌, ◌-◌, Bool, false, ◌||◌, nat_eq, List, [], ◌∷◌, take, Option, Some, None, unwrap_or, slice_range, if◌then◌else◌}
use Rattle.std.specs.List.{prefix_len}
use Rattle.std.specs.Str.{is_utf8}
use Rattle.tokens_why.specs.Bytes.{is_blank, is_digit, is_letter, is_word_byte, is_operator_byte}
use Rattle.tokens_why.specs.Gap.{comment, opens_comment, has_star_name}
use Rattle.tokens_why.specs.Strings.{kind_of}
use Rattle.tokens_why.specs.declared.token.TokenKind.{TokenKind}
use Rattle.tokens_why.specs.declared.token.TokenKind.TheVariants as source
use Rattle.drivers.specs.driver_tokens.Strings.{quoted}
use Rattle.drivers.specs.driver_tokens.Words.{word_of}
use Rattle.drivers.specs.declared.driver_tokens.bytes.Run.{Run}
use Rattle.drivers.specs.declared.driver_tokens.bytes.Run.TheVariants.{Word, Digit, Operator}
use Rattle.drivers.specs.declared.driver_tokens.terminal.DriverTerminal.{DriverTerminal}
use Rattle.drivers.specs.declared.driver_tokens.terminal.DriverTerminal.TheVariants as t
use Rattle.drivers.specs.declared.driver_tokens.token.DriverToken.{DriverToken}

abbrev pub is_in_run : Run → ℕ → Bool
is_in_run Word = is_word_byte
is_in_run Digit = is_digit
is_in_run Operator = is_operator_byte

-- How many bytes the blank or comment in front takes, as in sources. 0: there is none, or one that
-- isn't closed.
abbrev pub gap_length : List ℕ → ℕ
gap_length [] = 0
gap_length (a ∷ bs) = if is_blank a then 1
    else (if opens_comment (a ∷ bs) then unwrap_or (comment (a ∷ bs) 1 2) 0 else 0)

-- a number has no zero in front
abbrev pub number_length : ℕ → List ℕ → ℕ
number_length a bs = if nat_eq a 48 then 1 else 1 + prefix_len is_digit bs

-- a string that is closed, and whose bytes between the quotes are UTF-8
abbrev pub string_length : List ℕ → Option ℕ → ℕ
string_length bs None = 0
string_length bs (Some n) = if is_utf8 (take (n - 1) bs) then 1 + n else 0

-- `(*)`, or one of `( ) . ,`, where no comment opens
abbrev pub mark_length : ℕ → List ℕ → ℕ
mark_length a bs = if has_star_name bs then 3
    else (if opens_comment bs then 0
    else (if nat_eq a 40 || nat_eq a 41 || nat_eq a 46 || nat_eq a 44 then 1 else 0))

-- How many bytes the longest token in front takes. 0: no token begins there.
abbrev pub token_length : List ℕ → ℕ
token_length [] = 0
token_length (a ∷ bs) = if is_letter a then 1 + prefix_len is_word_byte bs
    else (if is_digit a then number_length a bs
    else (if is_operator_byte a then 1 + prefix_len is_operator_byte bs
    else (if nat_eq a 34 then string_length bs (quoted false bs)
    else mark_length a (a ∷ bs))))

abbrev pub open_or_star : List ℕ → DriverTerminal
open_or_star [] = t.Open
open_or_star (b ∷ bs) = t.Star

abbrev pub mark_of : ℕ → List ℕ → DriverTerminal
mark_of a bs = if nat_eq a 34 then t.Text
    else (if nat_eq a 40 then open_or_star bs
    else (if nat_eq a 41 then t.Close
    else (if nat_eq a 46 then t.Dot
    else (if nat_eq a 44 then t.Comma else t.Nothing))))

-- a run of operator characters, by its kind in sources: a connective is no operator
abbrev pub operator_of : Option TokenKind → DriverTerminal
operator_of (Some source.Equal) = t.Operator
operator_of (Some source.Minus) = t.Operator
operator_of (Some (source.Operator level prefix)) = t.Operator
operator_of _ = t.Nothing

-- what the text of a token is; the empty text is none
abbrev pub driver_terminal_of : List ℕ → DriverTerminal
driver_terminal_of [] = t.Nothing
driver_terminal_of (a ∷ bs) = if is_letter a then t.Word (word_of (a ∷ bs))
    else (if is_digit a then t.Number
    else (if is_operator_byte a then operator_of (kind_of (a ∷ bs))
    else mark_of a bs))

-- a token, with the byte at which it begins and its text
pub record DriverLexeme : Type 0 where
  pub terminal : DriverTerminal
  pub at : ℕ
  pub text : List ℕ

abbrev pub driver_lexeme : ℕ → List ℕ → DriverLexeme
driver_lexeme at text = record { terminal = driver_terminal_of text; at = at; text = text }

-- After a gap the tokens go on; a token stands with those after it; a byte with which no token
-- begins is a last one, without text.
abbrev pub after_gap : ℕ → ℕ → ℕ → List ℕ → (ℕ → List DriverLexeme) → List DriverLexeme
after_gap (suc n) k at text next = next n
after_gap zero zero at text next = driver_lexeme at [] ∷ []
after_gap zero (suc n) at text next = driver_lexeme at (take (suc n) text) ∷ next n

-- the tokens from a byte on, after so many bytes that are passed over
abbrev pub lexed : List ℕ → ℕ → ℕ → List DriverLexeme
lexed [] at passed = []
lexed (a ∷ bs) at (suc n) = lexed bs (at + 1) n
lexed (a ∷ bs) at zero =
    after_gap (gap_length (a ∷ bs)) (token_length (a ∷ bs)) at (a ∷ bs) (λ n. lexed bs (at + 1) n)

-- the tokens of a text
abbrev pub driver_lexemes : List ℕ → List DriverLexeme
driver_lexemes text = lexed text 0 0

-- a token of the code, in its text
abbrev pub lexeme_in : List ℕ → DriverToken → DriverLexeme
lexeme_in text token = record {
  terminal = token.terminal;
  at = token.start;
  text =
      slice_range text token.start token.end;
}
