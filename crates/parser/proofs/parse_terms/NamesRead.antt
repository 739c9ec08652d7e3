-- What follows where names are read.
use Rattle.parser.proofs.parse_terms.Common.{◌≡◌, ℕ, ◌+◌, ◌<◌, Bool, true, false, ◌&&◌, List, [], ◌∷◌, ◌++◌, length, Option, Some, None, refl, sym, ap, ◌∙◌, append_assoc, append-nil, Terminal, is_operator, same, Lexeme, Word, Own, op, Dotted, Scoped, own_op, scope_on, opname_rows, find, opname_found, Begun, CanRead, IsRead, beyond, terminal_at, token_at}
use Rattle.tokens_why.specs.declared.terminal.Terminal.TheVariants as t
use Rattle.grammar.specs.declared.symbols.Symbol.TheVariants as s
use Rattle.parser.proofs.parse_terms.Steps.{again, and_cases, begins, done, expand, expand_by, next, next_within, none_of, none_where, only, pass, stands_due, start, take}

-- names of terms: scopes, then a name or an operator
abbrev pub scoped_on : List Word → Scoped → Scoped
scoped_on qs d = record { scopes = qs ++ d.scopes; own = d.own }

abbrev pub Scopes : List Lexeme → ℕ → List Word → ℕ → Type 0
Scopes xs i qs j = Begun xs 0 (λ k. s.Qhead ∷ k) i (λ k. s.Qhead ∷ k) (λ k us. (scoped_on qs us.0, us.1)) j

pub scopes_more : (xs : List Lexeme) (i : ℕ) (qs : List Word) (j : ℕ) → (same t.Uident (terminal_at xs j) && same t.Dot (terminal_at xs (j + 1))) ≡ true → Scopes xs i qs j → Scopes xs i (qs ++ (token_at xs j).text ∷ []) (j + 1 + 1)
scopes_more xs i qs j b g = let q = and_cases (same t.Uident (terminal_at xs j)) (same t.Dot (terminal_at xs (j + 1))) b in
    let p = expand g t.Uident q.0 refl refl in
    let r = expand p t.Dot q.1 refl refl in
    again r 0 refl (λ k us. ap (λ v. (scoped v us.0.own, us.1)) (sym (append_assoc qs ((token_at xs j).text ∷ []) us.0.scopes)))
  where
    scoped : List Word → Own → Scoped
    scoped vs o = record { scopes = vs; own = o }

pub scopes_done : (xs : List Lexeme) (i : ℕ) (qs : List Word) (j : ℕ) (o : Own) (m : ℕ) → Scopes xs i qs j → IsRead xs s.Qhead j (record { scopes = []; own = o }) m → IsRead xs s.Qhead i (record { scopes = qs; own = o }) m
scopes_done xs i qs j o m g r = let p = next g r in done p (record { scopes = qs; own = o }) refl (λ k us. ap (λ v. (scoped v o, us)) (append-nil qs))
  where
    scoped : List Word → Own → Scoped
    scoped vs o = record { scopes = vs; own = o }

module _ {xs : List Lexeme} {i : ℕ} (c : CanRead xs s.Qhead i) where
  pub operator_start : same t.Lident (terminal_at xs i) ≡ false → same t.Uident (terminal_at xs i) ≡ false → same t.StarName (terminal_at xs i) ≡ false → Begun xs 1 (λ k. s.Qhead ∷ k) i (λ k. s.Opname ∷ k) (λ k us. (record { scopes = []; own = own_op us.0.prefix us.0.op }, us.1)) (i + 1)
  operator_start l u n = let g = start c in let e = only g t.LParen (t.Lident ∷ t.Uident ∷ t.StarName ∷ []) refl refl (l, (u, (n, tt))) in
      let p = expand g t.LParen e refl refl in again p 1 refl (λ k us. refl)

-- operators' names
opname_none : (o : Terminal) → is_operator o ≡ false → find opname_rows o ≡ None
opname_none o h = none_where opname_rows is_operator (t.Equal ∷ t.Minus ∷ t.Operator1 ∷ t.Operator2 ∷ t.Operator3 ∷ t.Operator4 ∷ t.PrefixOperator ∷ []) o refl refl h

module _ {xs : List Lexeme} {j : ℕ} (c : CanRead xs s.Opname j) where
  pub opname_start : Begun xs 1 (λ k. s.Opname ∷ k) j (λ k. s.Opend ∷ k) (λ k us. (record { op = op j (terminal_at xs j) (token_at xs j).text; prefix = us.0 }, us.1)) (j + 1)
  opname_start = by_test (is_operator (terminal_at xs j)) refl
    where
      by_test : (b : Bool) → is_operator (terminal_at xs j) ≡ b → Begun xs 1 (λ k. s.Opname ∷ k) j (λ k. s.Opend ∷ k) (λ k us. (record { op = op j (terminal_at xs j) (token_at xs j).text; prefix = us.0 }, us.1)) (j + 1)
      by_test true e = let p = expand_by (start c) (stands_due c refl) (opname_found (terminal_at xs j) e) in again p 1 refl (λ k us. refl)
      by_test false e = absurd (begins (start c) refl (opname_none (terminal_at xs j) e))

  pub prefix_wild : same t.RParen (terminal_at xs (j + 1)) ≡ false → same t.Wild (terminal_at xs (j + 1)) ≡ true
  prefix_wild n = only opname_start t.Wild (t.RParen ∷ []) refl refl (n, tt)

-- names of types: scopes, then a name in lower case
abbrev pub dotted_on : List Word → Dotted → Dotted
dotted_on qs d = record { scopes = qs ++ d.scopes; last = d.last }

abbrev pub TypeScopes : List Lexeme → ℕ → List Word → ℕ → Type 0
TypeScopes xs i qs j = Begun xs 0 (λ k. s.Qlid ∷ k) i (λ k. s.Qlid ∷ k) (λ k us. (dotted_on qs us.0, us.1)) j

module _ (xs : List Lexeme) (i : ℕ) (qs : List Word) (j : ℕ) (g : TypeScopes xs i qs j) where
  pub type_scopes_more : same t.Uident (terminal_at xs j) ≡ true → TypeScopes xs i (qs ++ (token_at xs j).text ∷ []) (j + 1 + 1)
  type_scopes_more e = let p = expand g t.Uident e refl refl in let r = take p in
      again r 0 refl (λ k us. ap (λ v. (scoped v us.0.last, us.1)) (sym (append_assoc qs ((token_at xs j).text ∷ []) us.0.scopes)))
    where
      scoped : List Word → Word → Dotted
      scoped vs w = record { scopes = vs; last = w }

  pub type_name_there : same t.Uident (terminal_at xs j) ≡ false → same t.Lident (terminal_at xs j) ≡ true
  type_name_there n = only g t.Lident (t.Uident ∷ []) refl refl (n, tt)

  pub type_scopes_done : same t.Uident (terminal_at xs j) ≡ false → IsRead xs s.Qlid i (record { scopes = qs; last = (token_at xs j).text }) (j + 1)
  type_scopes_done n = let p = expand g t.Lident (type_name_there n) refl refl in done p (record { scopes = qs; last = (token_at xs j).text }) refl (λ k us. ap (λ v. (scoped v (token_at xs j).text, us)) (append-nil qs))
    where
      scoped : List Word → Word → Dotted
      scoped vs w = record { scopes = vs; last = w }

-- names of constructors in patterns, after their first word
beyond_more : (ws : List Word) (w : Word) (d : Option Dotted) → beyond ws (Some (scope_on w d)) ≡ beyond (ws ++ w ∷ []) d
beyond_more [] w d = refl
beyond_more (v ∷ ws) w d = ap (λ u. Some (scope_on v u)) (beyond_more ws w d)

abbrev pub UpperScopes : List Lexeme → ℕ → List Word → ℕ → Type 0
UpperScopes xs i ws j = Begun xs 0 (λ k. s.Quids ∷ k) i (λ k. s.Quids ∷ k) (λ k us. (beyond ws us.0, us.1)) j

pub upper_scopes_start : {xs : List Lexeme} {i : ℕ} → CanRead xs s.Quids i → UpperScopes xs i [] i
upper_scopes_start c = again (start c) 0 refl (λ k us. refl)

module _ (xs : List Lexeme) (i : ℕ) (ws : List Word) (j : ℕ) (g : UpperScopes xs i ws j) where
  pub upper_scopes_within : same t.Dot (terminal_at xs j) ≡ true → j + 1 < length xs
  upper_scopes_within e = let p = expand g t.Dot e refl refl in next_within p refl

  pub upper_there : same t.Dot (terminal_at xs j) ≡ true → same t.Uident (terminal_at xs (j + 1)) ≡ true
  upper_there e = let p = expand g t.Dot e refl refl in only p t.Uident [] refl refl tt

  pub upper_scopes_more : same t.Dot (terminal_at xs j) ≡ true → UpperScopes xs i (ws ++ (token_at xs (j + 1)).text ∷ []) (j + 1 + 1)
  upper_scopes_more e = let p = expand g t.Dot e refl refl in let r = take p in again r 0 refl (λ k us. ap (λ v. (v, us.1)) (beyond_more ws (token_at xs (j + 1)).text us.0))

  pub upper_scopes_done : same t.Dot (terminal_at xs j) ≡ false → IsRead xs s.Quids i (beyond ws None) j
  upper_scopes_done n = let p = pass g refl refl (none_of s.Quids (t.Dot ∷ []) (terminal_at xs j) refl (n, tt)) in done p (beyond ws None) refl (λ k us. refl)

-- the words of such a name, the last one apart
pub upper_words : (qs : List Word) (l w : Word) (ws : List Word) → qs ++ l ∷ [] ≡ w ∷ ws → scope_on w (beyond ws None) ≡ record { scopes = qs; last = l }
upper_words [] l w [] e = ap (λ v. dotted [] v) (sym same_word)
  where
    dotted : List Word → Word → Dotted
    dotted vs u = record { scopes = vs; last = u }

    same_word : l ≡ w
    same_word = cc
upper_words [] l w (v ∷ ws) e = cc
upper_words (q ∷ []) l w [] e = cc
upper_words (q ∷ p ∷ qs) l w [] e = cc
upper_words (q ∷ qs) l w (v ∷ ws) e = ap (λ d. scoped w d) (upper_words qs l v ws following) ∙ ap (λ u. dotted (u ∷ qs) l) (sym first)
  where
    dotted : List Word → Word → Dotted
    dotted vs u = record { scopes = vs; last = u }

    scoped : Word → Dotted → Dotted
    scoped u d = record { scopes = u ∷ d.scopes; last = d.last }

    first : q ≡ w
    first = cc

    following : qs ++ l ∷ [] ≡ v ∷ ws
    following = cc
