-- Tokens that are one term or formula.
use Rattle.std.specs.Prelude.{ℕ, ◌≡◌, ◌≤◌, false, List, [], ◌∷◌, Some, length}
use Rattle.parser.specs.parse_terms.Common.{Lexeme, SyntaxTree, from, read}
use Rattle.grammar.specs.declared.symbols.Symbol.TheVariants as s

-- The tokens from a place on are read as one expression.
pub record IsReadExpression (xs : List Lexeme) (i : ℕ) : Type 0 where
  pub within : i ≤ length xs
  pub value : SyntaxTree × Unit {0}
  pub reads : read (from xs i) i false (s.Expr 0 ∷ []) ≡ Some value
