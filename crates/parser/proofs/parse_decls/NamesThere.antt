-- The names that are made of tokens.
use Rattle.parser.proofs.parse_decls.Common.{◌≡◌, ℕ, true, List, ap, ◌∙◌, same, Name, Lexeme, name, terminal_at, token_at, IsTextAt, upper_text}
use Rattle.tokens_why.specs.declared.terminal.Terminal.TheVariants as t

pub made : (xs : List Lexeme) (i : ℕ) (n : Name) → n.at ≡ i → n.text ≡ (token_at xs i).text → n ≡ name i (token_at xs i).text
made xs i n p h = ap (λ j. name j n.text) p ∙ ap (name i) h

pub upper_there : (xs : List Lexeme) (i : ℕ) (n : Name) → n.at ≡ i → IsTextAt xs i n.text → same t.Uident (terminal_at xs i) ≡ true → n ≡ name i (token_at xs i).text
upper_there xs i n p h e = made xs i n p (upper_text h e)
