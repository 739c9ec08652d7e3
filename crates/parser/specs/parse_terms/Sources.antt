-- The lexemes of a source, and the texts of its names.
use Rattle.std.specs.Prelude.{ℕ, ◌≡◌, List, map}
use Rattle.parser.specs.parse_terms.Common.{Lexeme, Word, lexeme, said}
use Rattle.tokens_why.specs.Terminals.{string_terminal}
use Rattle.parser.specs.declared.parse_terms.source.Source.{Source}
use Rattle.parser.specs.parse_terms.Reading.{terminal_at, token_at}

abbrev pub lexemes : Source → List Lexeme
lexemes s = map (lexeme s.text.now) s.tokens.now

-- a text that is a token's
pub record IsTextAt (xs : List Lexeme) (i : ℕ) (w : Word) : Type 0 where
  pub terminal : string_terminal w ≡ terminal_at xs i
  pub says : said (terminal_at xs i) w ≡ (token_at xs i).text
