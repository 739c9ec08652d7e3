-- How the tokens of branches, `let` and quantifiers are grouped.
use Rattle.grammar.proofs.reading.Common.{◌≡◌, ℕ, ◌+◌, List, [], ◌∷◌, ◌++◌, refl, ap, ◌∙◌, append_assoc, Lexeme, mark, past, SyntaxTrigger, triggered, untriggered, write_trigger}
use Rattle.tokens_why.specs.declared.terminal.Terminal.TheVariants as t
use Rattle.grammar.specs.declared.symbols.Symbol.TheVariants as s
use Rattle.grammar.proofs.reading.Reading.{Stops, past-append}

pub match_tokens : (a b c d ys : List Lexeme) → ((a ++ b) ++ (mark t.WithWord ∷ (c ++ (d ++ (mark t.EndWord ∷ []))))) ++ ys ≡ a ++ (b ++ (mark t.WithWord ∷ (c ++ ((d ++ (mark t.EndWord ∷ [])) ++ ys))))
match_tokens a b c d ys = simp append_assoc

pub match_past : (a b c d : List Lexeme) (i : ℕ) → past i ((a ++ b) ++ (mark t.WithWord ∷ (c ++ (d ++ (mark t.EndWord ∷ []))))) ≡ past (past (past (past i a) b + 1) c) (d ++ (mark t.EndWord ∷ []))
match_past a b c d i = past-append (a ++ b) (mark t.WithWord ∷ (c ++ (d ++ (mark t.EndWord ∷ [])))) i ∙ ap (λ n. past (n + 1) (c ++ (d ++ (mark t.EndWord ∷ [])))) (past-append a b i) ∙ past-append c (d ++ (mark t.EndWord ∷ [])) (past (past i a) b + 1)

pub let_tokens : (a b c d ys : List Lexeme) → ((a ++ b) ++ (mark t.Equal ∷ (c ++ (mark t.InWord ∷ d)))) ++ ys ≡ a ++ (b ++ (mark t.Equal ∷ (c ++ (mark t.InWord ∷ (d ++ ys)))))
let_tokens a b c d ys = simp append_assoc

pub let_past : (a b c d : List Lexeme) (i : ℕ) → past i ((a ++ b) ++ (mark t.Equal ∷ (c ++ (mark t.InWord ∷ d)))) ≡ past (past (past (past i a) b + 1) c + 1) d
let_past a b c d i = past-append (a ++ b) (mark t.Equal ∷ (c ++ (mark t.InWord ∷ d))) i ∙ ap (λ n. past (n + 1) (c ++ (mark t.InWord ∷ d))) (past-append a b i) ∙ past-append c (mark t.InWord ∷ d) (past (past i a) b + 1)

pub quantifier_tokens : (a b c d e ys : List Lexeme) → (((a ++ b) ++ c) ++ (d ++ (mark t.Dot ∷ e))) ++ ys ≡ a ++ (b ++ (c ++ (d ++ (mark t.Dot ∷ (e ++ ys)))))
quantifier_tokens a b c d e ys = simp append_assoc

pub quantifier_past : (a b c d e : List Lexeme) (i : ℕ) → past i (((a ++ b) ++ c) ++ (d ++ (mark t.Dot ∷ e))) ≡ past (past (past (past (past i a) b) c) d + 1) e
quantifier_past a b c d e i = past-append ((a ++ b) ++ c) (d ++ (mark t.Dot ∷ e)) i ∙ ap (λ n. past n (d ++ (mark t.Dot ∷ e))) (past-append (a ++ b) c i ∙ ap (λ n. past n c) (past-append a b i)) ∙ past-append d (mark t.Dot ∷ e) (past (past (past i a) b) c)

pub branch_tokens : (a b c d ys : List Lexeme) → ((a ++ (mark t.Arrow ∷ (b ++ c))) ++ d) ++ ys ≡ a ++ (mark t.Arrow ∷ (b ++ ((c ++ d) ++ ys)))
branch_tokens a b c d ys = simp append_assoc

pub branch_past : (a b c d : List Lexeme) (i : ℕ) → past i ((a ++ (mark t.Arrow ∷ (b ++ c))) ++ d) ≡ past (past (past i a + 1) b) (c ++ d)
branch_past a b c d i = ap (past i) (regrouped a b c d) ∙ past-append a (mark t.Arrow ∷ (b ++ (c ++ d))) i ∙ past-append b (c ++ d) (past i a + 1)
  where
    regrouped : (a b c d : List Lexeme) → (a ++ (mark t.Arrow ∷ (b ++ c))) ++ d ≡ a ++ (mark t.Arrow ∷ (b ++ (c ++ d)))
    regrouped a b c d = simp append_assoc

pub trigger_stop : (g : SyntaxTrigger) (zs : List Lexeme) → Stops s.Targs (write_trigger g ++ (mark t.Dot ∷ zs))
trigger_stop untriggered zs = refl
trigger_stop (triggered es bars) zs = refl
