-- What follows where one of several tokens stands.
use Rattle.parser.proofs.parse_terms.Common.{◌≡◌, ℕ, ◌+◌, Bool, true, false, ◌||◌, if◌then◌else◌, List, [], ◌∷◌, ◌++◌, refl, sym, subst, Terminal, same, Name, Lexeme, SyntaxTree, more, quantifier, triggered, Begun, terminal_at}
use Rattle.tokens_why.specs.declared.terminal.Terminal.TheVariants as t
use Rattle.grammar.specs.declared.symbols.Symbol.TheVariants as s
use Rattle.parser.proofs.parse_terms.Steps.{many}
use Rattle.parser.proofs.parse_terms.OpenRead.{Naming, Triggering, bar_start, comma_start}
use Rattle.parser.proofs.parse_terms.MatchRead.{Branching, Matched, bare_start, barred_start}

pub neither : (a b : Bool) → (a || b) ≡ false → (a ≡ false) × (b ≡ false)
neither false b h = (refl, h)
neither true b h = cc

pub quantifier_there : (x : Terminal) (b : Bool) → b ≡ same t.ForallWord x → (same t.ForallWord x || same t.ExistsWord x) ≡ true → same (quantifier b) x ≡ true
quantifier_there x true e h = sym e
quantifier_there x false e h = subst (λ a. (a || same t.ExistsWord x) ≡ true) (sym e) h

pub separator_start : (xs : List Lexeme) (i : ℕ) (ts : List SyntaxTree) (bars : List Bool) (j : ℕ) → Triggering xs i ts bars j → (b : Bool) → b ≡ same t.Bar (terminal_at xs j) → (same t.Comma (terminal_at xs j) || same t.Bar (terminal_at xs j)) ≡ true → Begun xs 1 (λ k. s.Binders ∷ k) i (λ k. s.Expr 0 ∷ s.Trigger ∷ k) (λ k us. (record { others = []; trigger = triggered (many more ts (more us.0 us.1.0.terms)) (bars ++ b ∷ us.1.0.bars); body = us.1.0.body }, us.1.1)) (j + 1)
separator_start xs i ts bars j g true e h = bar_start xs i ts bars j g (sym e)
separator_start xs i ts bars j g false e h = comma_start xs i ts bars j g (left (same t.Comma (terminal_at xs j)) (same t.Bar (terminal_at xs j)) (sym e) h)
  where
    left : (a b : Bool) → b ≡ false → (a || b) ≡ true → a ≡ true
    left true b e h = refl
    left false b e h = cc

pub branching_start : (xs : List Lexeme) (i : ℕ) (es : List SyntaxTree) (j : ℕ) → Matched xs i es j → same t.Comma (terminal_at xs j) ≡ false → (b : Bool) (n : ℕ) → b ≡ same t.Bar (terminal_at xs (j + 1)) → n ≡ (if b then j + 1 + 1 else j + 1) → Branching xs i es b [] n
branching_start xs i es j g c true n e h = subst (λ p. Branching xs i es true [] p) (sym h) (barred_start xs i es j g c (sym e))
branching_start xs i es j g c false n e h = subst (λ p. Branching xs i es false [] p) (sym h) (bare_start xs i es j g c (sym e))

-- names that are bound together
pub record Named (xs : List Lexeme) (i : ℕ) (ns : List Name) (j : ℕ) : Type 0 where
  pub first : Name
  pub others : List Name
  pub spelled : first ∷ others ≡ ns
  pub is : Naming xs i first others j
