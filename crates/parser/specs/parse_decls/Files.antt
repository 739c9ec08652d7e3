-- What is read as theories, and tokens that are one file.
use Rattle.std.specs.Prelude.{ℕ, ◌≡◌, Bool, false, ◌||◌, List, [], ◌∷◌, Some}
use Rattle.parser.specs.parse_decls.Common.{Terminal, same, Lexeme, SyntaxTheory, read, Begun}
use Rattle.tokens_why.specs.declared.terminal.Terminal.TheVariants as t
use Rattle.grammar.specs.declared.symbols.Symbol.TheVariants as s

abbrev pub begins_theory : Terminal → Bool
begins_theory x = same t.TheoryWord x || same t.ModuleWord x

-- What is read as theories has this one first, and goes on as theories.
abbrev pub IsTheory : List Lexeme → ℕ → SyntaxTheory → ℕ → Type 0
IsTheory xs i t j = Begun xs 1 (λ k. s.File ∷ k) i (λ k. s.File ∷ k) (λ k us. (t ∷ us.0, us.1)) j

-- The tokens are read as one file.
pub record IsReadFile (xs : List Lexeme) : Type 0 where
  pub value : List SyntaxTheory × Unit {0}
  pub reads : read xs 0 false (s.File ∷ []) ≡ Some value
