-- The tokens of a text from one to another, and what they are to the grammar.
use Rattle.std.specs.Prelude.{ℕ, ◌-◌, List, map, take}
use Rattle.grammar.specs.recognise.Common.{Terminal, Token, terminal_of, Lexeme, rest}

abbrev pub terminals_of : List Token → List Terminal
terminals_of = map (λ k. terminal_of k.kind)

-- from a place up to another
abbrev pub lexemes_between : List ℕ → List Token → ℕ → ℕ → List Lexeme
lexemes_between text ts from upto = take (upto - from) (rest text ts from)
