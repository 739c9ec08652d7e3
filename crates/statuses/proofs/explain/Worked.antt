-- Worked examples of the definitions, by computation.
use Rattle.std.proofs.Common.{◌≡◌, List, [], ◌∷◌, Some, None, codes, refl}
use Rattle.tokens_why.specs.declared.token.Token.{Token}
use Rattle.tokens_why.specs.declared.token.TokenKind.TheVariants as kind
use Rattle.statuses.specs.declared.explain.table.Counts.TheVariants.{Tokens}
use Rattle.statuses.specs.declared.explain.places.Spot.TheVariants.{Nowhere, Byte, Line}
use Rattle.statuses.specs.explain.Table.{RowText}
use Rattle.statuses.specs.explain.Places.{line_numbered, line_number, line_before, column_after, byte_spot, token_byte}
use Rattle.statuses.specs.explain.Message.{excerpt, row_for}

second_line : line_number (codes "a\nb c") 3 ≡ 2
second_line = refl

its_text : line_numbered (codes "a\nb c") 2 ≡ codes "b c"
its_text = refl

its_front : line_before (codes "a\nb c") 3 ≡ codes "b"
its_front = refl

-- the end of a text that ends at a line feed
last_line : line_number (codes "a\n") 2 ≡ 2
last_line = refl

-- a character of two bytes and a tab
third_column : column_after (195 ∷ 169 ∷ 9 ∷ []) ≡ 3
third_column = refl

the_end : byte_spot (codes "ab") 2 ≡ Byte 2
the_end = refl

no_place : byte_spot (codes "ab") 3 ≡ Nowhere
no_place = refl

abbrev two_tokens : List Token
two_tokens = record { kind = kind.Lident; start = 1; end = 3 } ∷ record { kind = kind.Colon; start = 4; end = 5 } ∷ []

its_start : token_byte two_tokens 1 ≡ Some 4
its_start = refl

after_the_last : token_byte two_tokens 2 ≡ Some 5
after_the_last = refl

no_token : token_byte two_tokens 3 ≡ None
no_token = refl

abbrev unknown : RowText
unknown = record { fields = 2; counts = Tokens; words = codes "unknown name" }

its_row : row_for (20 ∷ 1 ∷ 5 ∷ []) ≡ Some unknown
its_row = refl

-- another number of numbers
no_row : row_for (20 ∷ 1 ∷ []) ≡ None
no_row = refl

at_a_character : excerpt (codes "a\n\tb c") (Byte 5) ≡ codes "\tb c\n\t  ^\n"
at_a_character = refl

in_a_line : excerpt (codes "p\nq") (Line 2) ≡ codes "q\n"
in_a_line = refl

after_the_lines : excerpt (codes "p\nq") (Line 3) ≡ []
after_the_lines = refl
