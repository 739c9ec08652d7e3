-- Bytes that may follow one another.
use Rattle.std.specs.Prelude.{ℕ, Bool}
use Rattle.tokens_why.specs.Bytes.{is_word_byte, is_operator_byte, is_no_bracket}
use Rattle.tokens_why.specs.Literal.{is_digit_or_line}
use Rattle.tokens_why.specs.declared.bytes.Class.{Class}
use Rattle.tokens_why.specs.declared.bytes.Class.TheVariants.{Word, Operator, DigitOrLine, NoBracket}

abbrev pub is_in_class : Class → ℕ → Bool
is_in_class Word = is_word_byte
is_in_class Operator = is_operator_byte
is_in_class (DigitOrLine radix) = is_digit_or_line radix
is_in_class NoBracket = is_no_bracket
