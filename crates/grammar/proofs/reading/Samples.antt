-- For each terminal a string that is a token of it.
use Rattle.grammar.proofs.reading.Common.{◌≡◌, ℕ, ◌≤◌, List, [], ◌∷◌, Some, refl, lit≤, Terminal, kind_by, terminal_of, Lexeme, lexeme_by, CanStand}
use Rattle.std.specs.Prelude.{codes}
use Rattle.tokens_why.specs.declared.terminal.Terminal.TheVariants as t
use Rattle.tokens_why.specs.declared.token.TokenKind.TheVariants as tk
use Rattle.tokens_why.specs.Alphabet.{terminal_number}
use Rattle.tokens_why.specs.Literal.{literal_value, greatest}
use Rattle.tokens_why.specs.Reserved.{reserved_terminals, reserved_words}
use Rattle.tokens_why.specs.Strings.{kind_of}
use Rattle.tokens_why.specs.Terminals.{word_place}
use Rattle.std.proofs.Common.{get_or}

-- in the order of the terminals; after these stand the reserved words
abbrev strings : List (List ℕ)
strings = codes "x" ∷ codes "X" ∷ codes "_" ∷ codes "'a" ∷ codes "0" ∷ codes "(*)" ∷ codes "(" ∷ codes ")" ∷ codes "[" ∷ codes "]" ∷
    codes "{" ∷ codes "}" ∷ codes "," ∷ codes "." ∷ codes ":" ∷ codes ";" ∷ codes "|" ∷ codes "->" ∷ codes "<->" ∷ codes "/\\" ∷
    codes "&&" ∷ codes "\\/" ∷ codes "||" ∷ codes "=" ∷ codes "-" ∷ codes "<" ∷ codes "+" ∷ codes "*" ∷ codes "@" ∷ codes "!" ∷ []

abbrev pub string : Terminal → List ℕ
string x = get_or strings (terminal_number x) (get_or reserved_words (word_place reserved_terminals x) [])

abbrev pub sample : Terminal → Lexeme
sample x = lexeme_by (terminal_of (kind_by x)) (string x)

-- each is a token, of its terminal
pub is_token : (x : Terminal) → kind_of (string x) ≡ Some (kind_by x)
is_token t.Lident = refl
is_token _ = refl

pub fits : (x : Terminal) → kind_by x ≡ tk.Int → literal_value (string x) ≤ greatest
fits t.Int h = lit≤ tt
fits _ h = cc

pub can_stand : (x : Terminal) → CanStand (sample x)
can_stand x = record { string = string x; kind = kind_by x; is = record { is = is_token x; fits = fits x }; lexeme = refl }
