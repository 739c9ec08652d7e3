-- What is read as a pattern, up to the name that may follow it.
use Rattle.std.specs.Prelude.{ℕ, List, ◌∷◌}
use Rattle.parser.specs.parse_terms.Common.{Lexeme, SyntaxForm, named_at}
use Rattle.grammar.specs.declared.symbols.Symbol.TheVariants as s
use Rattle.parser.specs.parse_terms.Reading.{Begun}

abbrev pub IsBare : List Lexeme → ℕ → SyntaxForm → ℕ → Type 0
IsBare xs i p j =
    Begun xs 1 (λ k. s.Pat ∷ k) i (λ k. s.AsPart ∷ k) (λ k us. (named_at i p us.0, us.1)) j
