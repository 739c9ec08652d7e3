-- Tokens with their texts, as the grammar sees them, and the places of trees.
use Rattle.std.specs.Prelude.{ℕ, List, [], ◌∷◌, map, drop}
use Rattle.surface.specs.Common.{Terminal, kind_by, terminal_of, At, Name}
use Rattle.tokens_why.specs.declared.terminal.Terminal.TheVariants as t
use Rattle.tokens_why.specs.declared.token.Token.{Token}
use Rattle.tokens_why.specs.declared.token.TokenKind.{TokenKind}
use Rattle.tokens_why.specs.Literal.{literal_value}
use Rattle.tokens_why.specs.Tokens.{text_of}

abbrev pub Word : Type 0
Word = List ℕ

-- The text is that of a name or an operator, the value of an integer, and empty for any other.
pub record Lexeme : Type 0 where
  pub terminal : Terminal
  pub text : Word

abbrev pub lx : Terminal → Word → Lexeme
lx x w = record { terminal = x; text = w }

abbrev pub mark : Terminal → Lexeme
mark x = lx x []

-- what the text of a token says beside its terminal
abbrev pub said : Terminal → Word → Word
said t.Lident w = w
said t.Uident w = w
said t.TyVar w = w
said t.Int w = literal_value w ∷ []
said t.Operator1 w = w
said t.Operator2 w = w
said t.Operator3 w = w
said t.Operator4 w = w
said t.PrefixOperator w = w
said _ w = []

abbrev pub lexeme_by : Terminal → Word → Lexeme
lexeme_by x w = lx x (said x w)

-- a token of a text
abbrev pub lexeme : List ℕ → Token → Lexeme
lexeme text k = lexeme_by (terminal_of k.kind) (text_of text k)

-- the tokens from a place on
abbrev pub rest : List ℕ → List Token → ℕ → List Lexeme
rest text ts i = map (lexeme text) (drop i ts)

abbrev pub terminals : List Lexeme → List Terminal
terminals = map (λ x. x.terminal)

abbrev pub kinds : List Lexeme → List TokenKind
kinds xs = map kind_by (terminals xs)

-- the place of what has no operator between operands
abbrev pub at : ℕ → At
at i = record { first = i; main = i }

abbrev pub name : ℕ → Word → Name
name i w = record { at = i; text = w }
