-- Patterns of an alternative that were read.
use Rattle.parser.proofs.parse_terms.Common.{◌≡◌, ℕ, List, ◌∷◌, Lexeme, SyntaxForm}
use Rattle.parser.proofs.parse_terms.MatchRead.{Patterned}

pub record Patterning (xs : List Lexeme) (i : ℕ) (fs : List SyntaxForm) (j : ℕ) : Type 0 where
  pub first : SyntaxForm
  pub others : List SyntaxForm
  pub spelled : first ∷ others ≡ fs
  pub is : Patterned xs i first others j
