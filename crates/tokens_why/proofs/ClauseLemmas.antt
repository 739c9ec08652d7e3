-- What an answer of `lex` says, by the one reading of its text.
use Rattle.tokens_why.proofs.Common.{◌≡◌, ℕ, List, Result, Ok, Err, ◌↔◌, sym, subst, AreTokens, LexicalAt, BigLiteralAt, Reads, whole, lexical, big, Token}
use Rattle.tokens_why.specs.declared.fault.LexFault.{LexFault}
use Rattle.tokens_why.specs.declared.fault.LexFault.TheVariants.{Lexical, BigLiteral}
use Rattle.tokens_why.proofs.TurnLemmas.{Reading}

pub tokens-whole : (text : List ℕ) (found : List Token) → Reading text whole found → (ts : List Token) → (found ≡ ts) ↔ AreTokens text ts
tokens-whole text found h ts = (λ e. subst (AreTokens text) e h.reads, λ r. sym (h.only whole ts r).1)

pub tokens-lexical : (text : List ℕ) (b : ℕ) (found : List Token) → Reading text (lexical b) found → (ts : List Token) → ⊥ ↔ AreTokens text ts
tokens-lexical text b found h ts = (λ n. absurd n, λ r. let e = (h.only whole ts r).0 in cc)

pub tokens-big : (text : List ℕ) (b : ℕ) (found : List Token) → Reading text (big b) found → (ts : List Token) → ⊥ ↔ AreTokens text ts
tokens-big text b found h ts = (λ n. absurd n, λ r. let e = (h.only whole ts r).0 in cc)

pub lexical-whole : {V : Type 0} (text : List ℕ) (found : List Token) (r : Result V LexFault) (v : V) → r ≡ Ok v → Reading text whole found → (b : ℕ) → (r ≡ Err (Lexical b)) ↔ LexicalAt text b
lexical-whole text found r v e h b = (λ f. let n : ⊥ = cc in absurd n, λ l. let s = (h.only (lexical b) l.0 l.1).0 in let n : ⊥ = cc in absurd n)

pub big-whole : {V : Type 0} (text : List ℕ) (found : List Token) (r : Result V LexFault) (v : V) → r ≡ Ok v → Reading text whole found → (b : ℕ) → (r ≡ Err (BigLiteral b)) ↔ BigLiteralAt text b
big-whole text found r v e h b = (λ f. let n : ⊥ = cc in absurd n, λ l. let s = (h.only (big b) l.0 l.1).0 in let n : ⊥ = cc in absurd n)

pub lexical-lexical : {V : Type 0} (text : List ℕ) (found : List Token) (r : Result V LexFault) (a : ℕ) → r ≡ Err (Lexical a) → Reading text (lexical a) found → (b : ℕ) → (r ≡ Err (Lexical b)) ↔ LexicalAt text b
lexical-lexical text found r a e h b = (
  λ f. let same : a ≡ b = cc in (found, subst (λ v. Reads text (lexical v) 0 found) same h.reads),
  λ l. let s = (h.only (lexical b) l.0 l.1).0 in let same : b ≡ a = cc in cc,
)

pub big-lexical : {V : Type 0} (text : List ℕ) (found : List Token) (r : Result V LexFault) (a : ℕ) → r ≡ Err (Lexical a) → Reading text (lexical a) found → (b : ℕ) → (r ≡ Err (BigLiteral b)) ↔ BigLiteralAt text b
big-lexical text found r a e h b = (λ f. let n : ⊥ = cc in absurd n, λ l. let s = (h.only (big b) l.0 l.1).0 in let n : ⊥ = cc in absurd n)

pub lexical-big : {V : Type 0} (text : List ℕ) (found : List Token) (r : Result V LexFault) (a : ℕ) → r ≡ Err (BigLiteral a) → Reading text (big a) found → (b : ℕ) → (r ≡ Err (Lexical b)) ↔ LexicalAt text b
lexical-big text found r a e h b = (λ f. let n : ⊥ = cc in absurd n, λ l. let s = (h.only (lexical b) l.0 l.1).0 in let n : ⊥ = cc in absurd n)

pub big-big : {V : Type 0} (text : List ℕ) (found : List Token) (r : Result V LexFault) (a : ℕ) → r ≡ Err (BigLiteral a) → Reading text (big a) found → (b : ℕ) → (r ≡ Err (BigLiteral b)) ↔ BigLiteralAt text b
big-big text found r a e h b = (
  λ f. let same : a ≡ b = cc in (found, subst (λ v. Reads text (big v) 0 found) same h.reads),
  λ l. let s = (h.only (big b) l.0 l.1).0 in let same : b ≡ a = cc in cc,
)
