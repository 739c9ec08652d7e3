-- What is read as a branch of a match, as a binder and as a trigger.
use Rattle.std.specs.Prelude.{ℕ, ◌≡◌, false, List, [], ◌∷◌, Option}
use Rattle.parser.specs.parse_terms.Common.{same, Name, Lexeme, SyntaxForm, SyntaxForms, more_forms, TypedBinder, SyntaxTrigger, binds, Arm, forms}
use Rattle.tokens_why.specs.declared.terminal.Terminal.TheVariants as t
use Rattle.grammar.specs.declared.symbols.Symbol.TheVariants as s
use Rattle.parser.specs.parse_terms.Reading.{Begun, terminal_at}

-- What is read as a pattern and the rest of an arm has these patterns before a bar or an arrow.
pub record IsAlternative (xs : List Lexeme) (i : ℕ) (fs : SyntaxForms) (j : ℕ) : Type 0 where
  pub first : SyntaxForm
  pub others : List SyntaxForm
  pub spelled : more_forms first (forms others) ≡ fs
  pub ends : same t.Comma (terminal_at xs j) ≡ false
  pub is : Begun xs 1 (λ k. s.Pat ∷ s.Arm ∷ k) i (λ k. s.Arm ∷ k)
      (λ k us. (
        first,
        (
          record {
            patterns = forms others;
            alternatives = us.0.alternatives;
            body =
                us.0.body;
            others = us.0.others;
          },
          us.1,
        ),
      )) j

-- What is read as a pattern and the rest of an arm is this branch, and then others.
pub record IsBranch (xs : List Lexeme) (i : ℕ) (b : Arm) (j : ℕ) : Type 0 where
  pub first : SyntaxForm
  pub patterns : SyntaxForms
  pub others : List SyntaxForms
  pub spelled : more_forms first patterns ∷ others ≡ b.alternatives
  pub is : Begun xs 1 (λ k. s.Pat ∷ s.Arm ∷ k) i (λ k. s.Branches ∷ k)
      (λ k us. (
        first,
        (
          record {
            patterns = patterns;
            alternatives = others;
            body = b.body;
            others =
                us.0;
          },
          us.1,
        ),
      )) j

-- What is read as a name and the rest of a binder is this binder, and then others.
pub record IsBinder (xs : List Lexeme) (i : ℕ) (b : TypedBinder) (j : ℕ) : Type 0 where
  pub first : Name
  pub others : List Name
  pub of_type : Option SyntaxForm
  pub spelled : binds (first ∷ others) of_type ≡ b
  pub is : Begun xs 1 (λ k. s.Take t.Lident ∷ s.Binder ∷ k) i (λ k. s.Binders ∷ k)
      (λ k us. (first, (record { names = others; of_type = of_type; bound = us.0 }, us.1))) j

-- What is read after binders is this trigger, and then the body.
abbrev pub IsReadTrigger : List Lexeme → ℕ → SyntaxTrigger → ℕ → Type 0
IsReadTrigger xs i g j = Begun xs 1 (λ k. s.Binders ∷ k) i (λ k. s.Expr 0 ∷ s.Seal ∷ k)
    (λ k us. (record { others = []; trigger = g; body = us.0 }, us.1.1)) j
