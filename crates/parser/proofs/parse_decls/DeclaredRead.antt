-- What follows where names of symbols and propositions are read.
use Rattle.parser.proofs.parse_decls.Common.{◌≡◌, ℕ, ◌+◌, Bool, true, false, List, [], ◌∷◌, refl, sym, ap, subst, same, Name, Lexeme, called, own_of, own_op, Begun, CanRead, IsRead, terminal_at, IsTextAt, again, done, expand, only, start, lower_own}
use Rattle.tokens_why.specs.declared.terminal.Terminal.TheVariants as t
use Rattle.grammar.specs.declared.symbols.Symbol.TheVariants as s
use Rattle.surface.specs.declared.names.Style.TheVariants as style
use Rattle.parser.proofs.parse_terms.TextsRead.{upper_own}

module _ {xs : List Lexeme} {i : ℕ} (c : CanRead xs s.Op i) where
  pub operator_start : same t.Lident (terminal_at xs i) ≡ false → same t.StarName (terminal_at xs i) ≡ false → Begun xs 1 (λ k. s.Op ∷ k) i (λ k. s.Opname ∷ k) (λ k us. (called i [] (own_op us.0.prefix us.0.op), us.1)) (i + 1)
  operator_start l n = let g = start c in let p = expand g t.LParen (only g t.LParen (t.Lident ∷ t.StarName ∷ []) refl refl (l, (n, tt))) refl refl in again p 1 refl (λ k us. refl)

pub prop_read : {xs : List Lexeme} {i : ℕ} → CanRead xs s.Ident i → (n : Name) → n.at ≡ i → IsTextAt xs i n.text → IsRead xs s.Ident i (called n.at [] (own_of style.Plain n.text)) (i + 1)
prop_read {xs} {i} c n h w = subst (λ j. IsRead xs s.Ident i (called j [] (own_of style.Plain n.text)) (i + 1)) (sym h) (by_test (same t.Lident (terminal_at xs i)) refl)
  where
    by_test : (b : Bool) → same t.Lident (terminal_at xs i) ≡ b → IsRead xs s.Ident i (called i [] (own_of style.Plain n.text)) (i + 1)
    by_test true e = let p = expand (start c) t.Lident e refl refl in done p (called i [] (own_of style.Plain n.text)) refl (λ k us. ap (λ o. (called i [] o, us)) (sym (lower_own w e)))
    by_test false e = let f = only (start c) t.Uident (t.Lident ∷ []) refl refl (e, tt) in let p = expand (start c) t.Uident f refl refl in done p (called i [] (own_of style.Plain n.text)) refl (λ k us. ap (λ o. (called i [] o, us)) (sym (upper_own w f)))
