-- What follows where types and patterns are read.
use Rattle.parser.proofs.parse_terms.Common.{◌≡◌, ℕ, ◌+◌, Bool, true, false, List, [], ◌∷◌, None, refl, ap, arith, Terminal, same, no_false, Lexeme, at, SyntaxForm, called, composed, enclosed, lower, more_forms, no_forms, forms, named_at, upper_called, row, rows, find, Begun, CanRead, begins_atype, begins_patom, terminal_at, token_at}
use Rattle.tokens_why.specs.declared.terminal.Terminal.TheVariants as t
use Rattle.grammar.specs.declared.symbols.Symbol.TheVariants as s
use Rattle.parser.proofs.parse_terms.Steps.{SideBySide, again, expand, extended_due, many, missed, none_where, only, start, unexpand}

pub forms_many : (fs : List SyntaxForm) → many more_forms fs no_forms ≡ forms fs
forms_many [] = refl
forms_many (f ∷ fs) = ap (more_forms f) (forms_many fs)

-- a type
module _ {xs : List Lexeme} {i : ℕ} (c : CanRead xs s.TypeOf i) where
  pub group_start : same t.LParen (terminal_at xs i) ≡ true → Begun xs 1 (λ k. s.TypeOf ∷ k) i (λ k. s.Ttuple ∷ k) (λ k us. (enclosed (at i) us.0, us.1)) (i + 1)
  group_start e = let p = expand (start c) t.LParen e refl refl in again p 1 refl (λ k us. refl)

  pub named_start : same t.TyVar (terminal_at xs i) ≡ false → same t.LParen (terminal_at xs i) ≡ false → Begun xs 0 (λ k. s.TypeOf ∷ k) i (λ k. s.Qlid ∷ s.Targs ∷ k) (λ k us. (composed (at i) (called i us.0.scopes (lower us.0.last)) us.1.0, us.1.1)) i
  named_start v l = by_test (same t.Uident (terminal_at xs i)) refl
    where
      by_test : (b : Bool) → same t.Uident (terminal_at xs i) ≡ b → Begun xs 0 (λ k. s.TypeOf ∷ k) i (λ k. s.Qlid ∷ s.Targs ∷ k) (λ k us. (composed (at i) (called i us.0.scopes (lower us.0.last)) us.1.0, us.1.1)) i
      by_test true e = let p = expand (start c) t.Uident e refl refl in
          unexpand s.Qlid (λ k. s.Targs ∷ k) (λ k us. (composed (at i) (called i us.0.scopes (lower us.0.last)) us.1.0, us.1.1)) i t.Uident e refl refl (omega arith) p
      by_test false e = let f = only (start c) t.Lident (t.TyVar ∷ t.LParen ∷ t.Uident ∷ []) refl refl (v, (l, (e, tt))) in let p = expand (start c) t.Lident f refl refl in
          unexpand s.Qlid (λ k. s.Targs ∷ k) (λ k us. (composed (at i) (called i us.0.scopes (lower us.0.last)) us.1.0, us.1.1)) i t.Lident f refl refl (omega arith) p

-- a type that stands as an argument
module _ {xs : List Lexeme} {i : ℕ} (c : CanRead xs s.Atype i) where
  pub group_part_start : same t.LParen (terminal_at xs i) ≡ true → Begun xs 1 (λ k. s.Atype ∷ k) i (λ k. s.Ttuple ∷ k) (λ k us. (enclosed (at i) us.0, us.1)) (i + 1)
  group_part_start e = let p = expand (start c) t.LParen e refl refl in again p 1 refl (λ k us. refl)

  pub named_part_start : same t.TyVar (terminal_at xs i) ≡ false → same t.LParen (terminal_at xs i) ≡ false → Begun xs 0 (λ k. s.Atype ∷ k) i (λ k. s.Qlid ∷ k) (λ k us. (composed (at i) (called i us.0.scopes (lower us.0.last)) no_forms, us.1)) i
  named_part_start v l = by_test (same t.Uident (terminal_at xs i)) refl
    where
      by_test : (b : Bool) → same t.Uident (terminal_at xs i) ≡ b → Begun xs 0 (λ k. s.Atype ∷ k) i (λ k. s.Qlid ∷ k) (λ k us. (composed (at i) (called i us.0.scopes (lower us.0.last)) no_forms, us.1)) i
      by_test true e = let p = expand (start c) t.Uident e refl refl in
          unexpand s.Qlid (λ k. k) (λ k us. (composed (at i) (called i us.0.scopes (lower us.0.last)) no_forms, us.1)) i t.Uident e refl refl (omega arith) p
      by_test false e = let f = only (start c) t.Lident (t.TyVar ∷ t.LParen ∷ t.Uident ∷ []) refl refl (v, (l, (e, tt))) in let p = expand (start c) t.Lident f refl refl in
          unexpand s.Qlid (λ k. k) (λ k us. (composed (at i) (called i us.0.scopes (lower us.0.last)) no_forms, us.1)) i t.Lident f refl refl (omega arith) p

pub atype_some : (x : Terminal) → begins_atype x ≡ true → find (rows s.Atype) x ≡ None → ⊥
atype_some t.TyVar h e = cc
atype_some t.Lident h e = cc
atype_some t.Uident h e = cc
atype_some t.LParen h e = cc
atype_some _ h e = no_false h

pub atype_none : (x : Terminal) → begins_atype x ≡ false → find (rows s.Atype) x ≡ None
atype_none x h = none_where (rows s.Atype) begins_atype (t.TyVar ∷ t.Lident ∷ t.Uident ∷ t.LParen ∷ []) x refl refl h

abbrev pub Types : List Lexeme → ℕ → List SyntaxForm → ℕ → Type 0
Types xs i fs j = SideBySide s.Targs s.Atype more_forms no_forms refl xs i fs j

-- types in parentheses
abbrev pub TypeList : List Lexeme → ℕ → List SyntaxForm → ℕ → Type 0
TypeList xs i fs j = Begun xs 1 (λ k. s.Ttuple ∷ k) i (λ k. s.Tmore ∷ k) (λ k us. (many more_forms fs us.0, us.1)) j

module _ {xs : List Lexeme} {i : ℕ} (c : CanRead xs s.Ttuple i) where
  pub first_type_start : same t.RParen (terminal_at xs i) ≡ false → Begun xs 0 (λ k. s.Ttuple ∷ k) i (λ k. s.TypeOf ∷ s.Tmore ∷ k) (λ k us. (more_forms us.0 us.1.0, us.1.1)) i
  first_type_start n = extended_due (start c) s.TypeOf (s.Tmore ∷ []) (λ v vs. more_forms v vs.0) (row s.Ttuple t.RParen [] (λ i w vs. no_forms) ∷ []) refl refl (missed (row s.Ttuple t.RParen [] (λ i w vs. no_forms)) [] (terminal_at xs i) n refl)

module _ {xs : List Lexeme} {i : ℕ} (c : CanRead xs s.Pat i) where
  pub constructor_start : same t.Uident (terminal_at xs i) ≡ true → Begun xs 1 (λ k. s.Pat ∷ k) i (λ k. s.Quids ∷ s.Patoms ∷ s.AsPart ∷ k) (λ k us. (named_at i (composed (at i) (upper_called i (token_at xs i).text us.0) us.1.0) us.1.1.0, us.1.1.1)) (i + 1)
  constructor_start e = let p = expand (start c) t.Uident e refl refl in again p 1 refl (λ k us. refl)

  -- Where no constructor stands a pattern is an atom, with a name or not.
  pub atom_start : same t.Uident (terminal_at xs i) ≡ false → Begun xs 0 (λ k. s.Pat ∷ k) i (λ k. s.Patom ∷ s.AsPart ∷ k) (λ k us. (named_at i us.0 us.1.0, us.1.1)) i
  atom_start n = by_wild (same t.Wild (terminal_at xs i)) refl
    where
      by_brace : (b : Bool) → same t.Wild (terminal_at xs i) ≡ false → same t.Lident (terminal_at xs i) ≡ false → same t.LBrace (terminal_at xs i) ≡ b → Begun xs 0 (λ k. s.Pat ∷ k) i (λ k. s.Patom ∷ s.AsPart ∷ k) (λ k us. (named_at i us.0 us.1.0, us.1.1)) i
      by_brace true w l e = let p = expand (start c) t.LBrace e refl refl in unexpand s.Patom (λ k. s.AsPart ∷ k) (λ k us. (named_at i us.0 us.1.0, us.1.1)) i t.LBrace e refl refl (omega arith) p
      by_brace false w l e = let f = only (start c) t.LParen (t.Uident ∷ t.Wild ∷ t.Lident ∷ t.LBrace ∷ []) refl refl (n, (w, (l, (e, tt)))) in let p = expand (start c) t.LParen f refl refl in unexpand s.Patom (λ k. s.AsPart ∷ k) (λ k us. (named_at i us.0 us.1.0, us.1.1)) i t.LParen f refl refl (omega arith) p

      by_name : (b : Bool) → same t.Wild (terminal_at xs i) ≡ false → same t.Lident (terminal_at xs i) ≡ b → Begun xs 0 (λ k. s.Pat ∷ k) i (λ k. s.Patom ∷ s.AsPart ∷ k) (λ k us. (named_at i us.0 us.1.0, us.1.1)) i
      by_name true w e = let p = expand (start c) t.Lident e refl refl in unexpand s.Patom (λ k. s.AsPart ∷ k) (λ k us. (named_at i us.0 us.1.0, us.1.1)) i t.Lident e refl refl (omega arith) p
      by_name false w e = by_brace (same t.LBrace (terminal_at xs i)) w e refl

      by_wild : (b : Bool) → same t.Wild (terminal_at xs i) ≡ b → Begun xs 0 (λ k. s.Pat ∷ k) i (λ k. s.Patom ∷ s.AsPart ∷ k) (λ k us. (named_at i us.0 us.1.0, us.1.1)) i
      by_wild true e = let p = expand (start c) t.Wild e refl refl in unexpand s.Patom (λ k. s.AsPart ∷ k) (λ k us. (named_at i us.0 us.1.0, us.1.1)) i t.Wild e refl refl (omega arith) p
      by_wild false e = by_name (same t.Lident (terminal_at xs i)) e refl

-- a pattern that stands as a part
module _ {xs : List Lexeme} {i : ℕ} (c : CanRead xs s.Patom i) where
  pub constant_start : same t.Uident (terminal_at xs i) ≡ true → Begun xs 1 (λ k. s.Patom ∷ k) i (λ k. s.Quids ∷ k) (λ k us. (composed (at i) (upper_called i (token_at xs i).text us.0) no_forms, us.1)) (i + 1)
  constant_start e = let p = expand (start c) t.Uident e refl refl in again p 1 refl (λ k us. refl)

  pub pattern_group_start : same t.Wild (terminal_at xs i) ≡ false → same t.Lident (terminal_at xs i) ≡ false → same t.Uident (terminal_at xs i) ≡ false → same t.LBrace (terminal_at xs i) ≡ false → Begun xs 1 (λ k. s.Patom ∷ k) i (λ k. s.Ptuple ∷ k) (λ k us. (enclosed (at i) us.0, us.1)) (i + 1)
  pattern_group_start w l u b = let p = expand (start c) t.LParen (only (start c) t.LParen (t.Wild ∷ t.Lident ∷ t.Uident ∷ t.LBrace ∷ []) refl refl (w, (l, (u, (b, tt))))) refl refl in again p 1 refl (λ k us. refl)

pub patom_some : (x : Terminal) → begins_patom x ≡ true → find (rows s.Patom) x ≡ None → ⊥
patom_some t.Wild h e = cc
patom_some t.Lident h e = cc
patom_some t.Uident h e = cc
patom_some t.LParen h e = cc
patom_some t.LBrace h e = cc
patom_some _ h e = no_false h

pub patom_none : (x : Terminal) → begins_patom x ≡ false → find (rows s.Patom) x ≡ None
patom_none x h = none_where (rows s.Patom) begins_patom (t.Wild ∷ t.Lident ∷ t.Uident ∷ t.LParen ∷ t.LBrace ∷ []) x refl refl h

abbrev pub Patterns : List Lexeme → ℕ → List SyntaxForm → ℕ → Type 0
Patterns xs i fs j = SideBySide s.Patoms s.Patom more_forms no_forms refl xs i fs j

-- patterns in parentheses
abbrev pub PatternList : List Lexeme → ℕ → List SyntaxForm → ℕ → Type 0
PatternList xs i fs j = Begun xs 1 (λ k. s.Ptuple ∷ k) i (λ k. s.Pmore ∷ k) (λ k us. (many more_forms fs us.0, us.1)) j

module _ {xs : List Lexeme} {i : ℕ} (c : CanRead xs s.Ptuple i) where
  pub first_pattern_start : same t.RParen (terminal_at xs i) ≡ false → Begun xs 0 (λ k. s.Ptuple ∷ k) i (λ k. s.Pat ∷ s.Pmore ∷ k) (λ k us. (more_forms us.0 us.1.0, us.1.1)) i
  first_pattern_start n = extended_due (start c) s.Pat (s.Pmore ∷ []) (λ v vs. more_forms v vs.0) (row s.Ptuple t.RParen [] (λ i w vs. no_forms) ∷ []) refl refl (missed (row s.Ptuple t.RParen [] (λ i w vs. no_forms)) [] (terminal_at xs i) n refl)
