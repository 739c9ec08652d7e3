-- Kinds of tokens that complete others.
use Rattle.std.specs.Prelude.{List, [], ◌∷◌, ◌++◌}
use Rattle.grammar.specs.recognise.Common.{⊤, terminal_of, IsString, Lexeme, Word, lexeme_by, IsOf}
use Rattle.tokens_why.specs.declared.token.TokenKind.{TokenKind}

-- strings that are tokens of these kinds
abbrev pub AreStrings : List TokenKind → List Word → Type 0
AreStrings [] [] = ⊤
AreStrings (k ∷ ks) (w ∷ ws) = IsString k w × AreStrings ks ws
AreStrings _ _ = ⊥

abbrev pub spelled_lexemes : List TokenKind → List Word → List Lexeme
spelled_lexemes (k ∷ ks) (w ∷ ws) = lexeme_by (terminal_of k) w ∷ spelled_lexemes ks ws
spelled_lexemes _ _ = []

-- After the tokens some of these kinds, as a text can have them, make a right tree.
pub record CompletesWith {V : Type 0} (is : V → Type 0) (write : V → List Lexeme) (xs : List Lexeme)
    (ks : List TokenKind) : Type 0 where
  pub strings : List Word
  pub are : AreStrings ks strings
  pub tree : V
  pub of : IsOf is write (xs ++ spelled_lexemes ks strings) tree
