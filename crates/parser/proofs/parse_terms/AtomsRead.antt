-- What follows where atoms, arguments and trees in parentheses are read.
use Rattle.parser.proofs.parse_terms.Common.{◌≡◌, ℕ, ◌+◌, ◌≤◌, Bool, true, false, ◌&&◌, List, [], ◌∷◌, None, refl, sym, ap, arith, Terminal, same, same_true, no_false, Lexeme, at, called, SyntaxTree, SyntaxTrees, apply, group, more, none, Scoped, accessed, is_lower_name, closed_group, paren, rows, find, Begun, CanRead, IsReadClosed, IsRead, begins_atom, is_name, is_name_at, terminal_at}
use Rattle.tokens_why.specs.declared.terminal.Terminal.TheVariants as t
use Rattle.grammar.specs.declared.symbols.Symbol.TheVariants as s
use Rattle.parser.proofs.parse_terms.Steps.{SideBySide, again, apart, done, expand, many, next, none_where, only, reread, start, unexpand}
use Rattle.parser.proofs.parse_terms.TermSteps.{sure}
use Rattle.parser.proofs.parse_terms.HeadsRead.{atom_inner, no_name}
use Rattle.parser.proofs.parse_terms.FieldsRead.{prim_args}

-- applications
pub application_read : {xs : List Lexeme} {i : ℕ} (c : CanRead xs s.Prim i) (d : Scoped) (j : ℕ) (ts : SyntaxTrees) (m : ℕ) → is_name_at xs i ≡ true → IsRead xs s.Qhead i d j → (same t.Dot (terminal_at xs j) && is_lower_name d.own) ≡ false → IsRead xs s.Args j ts m → IsReadClosed xs s.Prim i (apply (at i) (called i d.scopes d.own) ts) (apply (at i) (called i d.scopes d.own) ts) m
application_read {xs} {i} c d j ts m n q e r = let p = next (prim_args d j q c n e) r in record { first = refl; closed = refl; is = done p (apply (at i) (called i d.scopes d.own) ts) refl (λ k us. refl) }

-- arguments
pub atom_some : (x : Terminal) → begins_atom x ≡ true → find (rows s.Atom) x ≡ None → ⊥
atom_some t.Lident h e = cc
atom_some t.Uident h e = cc
atom_some t.StarName h e = cc
atom_some t.LParen h e = cc
atom_some t.Int h e = cc
atom_some t.TrueWord h e = cc
atom_some t.FalseWord h e = cc
atom_some t.MatchWord h e = cc
atom_some t.LBrace h e = cc
atom_some _ h e = no_false h

pub atom_none : (x : Terminal) → begins_atom x ≡ false → find (rows s.Atom) x ≡ None
atom_none x h = none_where (rows s.Atom) begins_atom (t.Lident ∷ t.Uident ∷ t.StarName ∷ t.LParen ∷ t.Int ∷ t.TrueWord ∷ t.FalseWord ∷ t.MatchWord ∷ t.LBrace ∷ []) x refl refl h

abbrev pub Arguments : List Lexeme → ℕ → List SyntaxTree → ℕ → Type 0
Arguments xs i es j = SideBySide s.Args s.Atom more none refl xs i es j

-- atoms of one token
module _ {xs : List Lexeme} {i : ℕ} (c : CanRead xs s.Atom i) where
  named_apart : (x o d : Terminal) → is_name x o d ≡ false → (same t.Lident x ≡ false) × (same t.Uident x ≡ false) × (same t.StarName x ≡ false)
  named_apart x o d n = (apart (λ y. is_name y o d) t.Lident x refl n, apart (λ y. is_name y o d) t.Uident x refl n, apart (λ y. is_name y o d) t.StarName x refl n)

  pub only_paren : is_name_at xs i ≡ false → same t.Int (terminal_at xs i) ≡ false → same t.TrueWord (terminal_at xs i) ≡ false → same t.FalseWord (terminal_at xs i) ≡ false → same t.MatchWord (terminal_at xs i) ≡ false → same t.LBrace (terminal_at xs i) ≡ false → same t.LParen (terminal_at xs i) ≡ true
  only_paren n a b d f h = let q = named_apart (terminal_at xs i) (terminal_at xs (i + 1)) (terminal_at xs (i + 1 + 1)) n in
      only (start c) t.LParen (t.Lident ∷ t.Uident ∷ t.StarName ∷ t.Int ∷ t.TrueWord ∷ t.FalseWord ∷ t.MatchWord ∷ t.LBrace ∷ []) refl refl (q.0, (q.1, (q.2, (a, (b, (d, (f, (h, tt))))))))

  module _ (l : same t.LParen (terminal_at xs i) ≡ true) where
    pub paren_start : Begun xs 1 (λ k. s.Atom ∷ k) i (λ k. s.Aparen ∷ k) (λ k us. (paren i us.0, us.1)) (i + 1)
    paren_start = let p = expand (start c) t.LParen l refl refl in again p 1 refl (λ k us. refl)

    lparen : (x : Terminal) → same t.LParen x ≡ true → x ≡ t.LParen
    lparen x h = sym (same_true t.LParen x h)

    pub inner_start : is_name_at xs i ≡ false → same t.RParen (terminal_at xs (i + 1)) ≡ false → Begun xs 1 (λ k. s.Atom ∷ k) i (λ k. s.Expr 0 ∷ s.GroupRest ∷ k) (λ k us. (closed_group i us.0 us.1.0, us.1.1)) (i + 1)
    inner_start n o = reread paren_start (λ k. s.Expr 0 ∷ s.GroupRest ∷ k) (λ k us. (closed_group i us.0 us.1.0, us.1.1))
        (λ k us e. (let q = atom_inner xs (i + 1) k us o (no_name (terminal_at xs i) (terminal_at xs (i + 1)) (terminal_at xs (i + 1 + 1)) (lparen (terminal_at xs i) l) n) e in (q.0, q.1, ap (λ m. (paren i m.0, m.1)) q.2)))

-- The first tree in parentheses was read, and what comes after it.
abbrev pub Inner : List Lexeme → ℕ → SyntaxTree → ℕ → Type 0
Inner xs i e j = Begun xs 1 (λ k. s.Atom ∷ k) i (λ k. s.GroupRest ∷ k) (λ k us. (closed_group i e us.0, us.1)) j

-- Trees in parentheses were read, and what comes after them.
abbrev pub Members : List Lexeme → ℕ → List SyntaxTree → ℕ → Type 0
Members xs i es j = Begun xs 1 (λ k. s.Atom ∷ k) i (λ k. s.More ∷ s.Dots ∷ k) (λ k us. (accessed i (group (at i) (many more es us.0)) us.1.0, us.1.1)) j

module _ (xs : List Lexeme) (i : ℕ) (e : SyntaxTree) (j : ℕ) (g : Inner xs i e j) where
  pub members_start : same t.Colon (terminal_at xs j) ≡ false → Members xs i (e ∷ []) j
  members_start n = by_test (same t.Comma (terminal_at xs j)) refl
    where
      further : i + 1 ≤ j
      further = g.ahead

      by_test : (b : Bool) → same t.Comma (terminal_at xs j) ≡ b → Members xs i (e ∷ []) j
      by_test true l = let p = expand g t.Comma l refl refl in sure 1 (unexpand s.More (λ k. s.Dots ∷ k) (λ k us. (accessed i (group (at i) (more e us.0)) us.1.0, us.1.1)) j t.Comma l refl refl (omega arith) p) further
      by_test false l = let f = only g t.RParen (t.Comma ∷ t.Colon ∷ []) refl refl (l, (n, tt)) in let p = expand g t.RParen f refl refl in sure 1 (unexpand s.More (λ k. s.Dots ∷ k) (λ k us. (accessed i (group (at i) (more e us.0)) us.1.0, us.1.1)) j t.RParen f refl refl (omega arith) p) further
