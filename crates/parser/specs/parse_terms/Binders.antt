-- What is read as the names that are bound together.
use Rattle.std.specs.Prelude.{ℕ, ◌≡◌, false, List, ◌∷◌, ◌++◌}
use Rattle.parser.specs.parse_terms.Common.{same, Name, Lexeme}
use Rattle.tokens_why.specs.declared.terminal.Terminal.TheVariants as t
use Rattle.grammar.specs.declared.symbols.Symbol.TheVariants as s
use Rattle.parser.specs.parse_terms.Reading.{Begun, terminal_at}

-- What is read as a name and the rest of a binder has these names first, and then no more.
pub record IsNaming (xs : List Lexeme) (i : ℕ) (ns : List Name) (j : ℕ) : Type 0 where
  pub first : Name
  pub others : List Name
  pub spelled : first ∷ others ≡ ns
  pub ends : same t.Lident (terminal_at xs j) ≡ false
  pub is : Begun xs 1 (λ k. s.Take t.Lident ∷ s.Binder ∷ k) i (λ k. s.Binder ∷ k)
      (λ k us. (
        first,
        (
          record {
            names = others ++ us.0.names;
            of_type = us.0.of_type;
            bound =
                us.0.bound;
          },
          us.1,
        ),
      )) j
