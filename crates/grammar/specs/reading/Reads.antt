-- The tokens from a place on, for a reader that goes down the rules.
use Rattle.grammar.specs.reading.Common.{ℕ, List, drop, get_or, Terminal, Lexeme, mark}
use Rattle.tokens_why.specs.declared.terminal.Terminal.TheVariants as t

-- the tokens from a number on
abbrev pub from : List Lexeme → ℕ → List Lexeme
from xs i = drop i xs

-- what is where no token does: a word with which no rule begins
abbrev pub nowhere : Lexeme
nowhere = mark t.OtherWord

abbrev pub token_at : List Lexeme → ℕ → Lexeme
token_at xs i = get_or xs i nowhere

abbrev pub terminal_at : List Lexeme → ℕ → Terminal
terminal_at xs i = (token_at xs i).terminal
