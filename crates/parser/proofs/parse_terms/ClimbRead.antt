-- What follows where operators are read.
use Rattle.parser.proofs.parse_terms.Common.{◌≡◌, ℕ, ◌+◌, ◌<◌, ◌⊎◌, inl, inr, Bool, true, false, not, ◌&&◌, nat_le, List, [], ◌∷◌, ◌++◌, length, Some, None, refl, sym, ap, ◌∙◌, subst, arith, Terminal, is_infix, is_prefix, prec, right, Symbol, operators, same, same_true, Lexeme, at, SyntaxTree, ends_open, negation, op, prefixed, Chain, attach, link, stop, joined_trees, Vals, extend, expr_own, link_row, prim_rows, takes_op, rows, find, read, first_row, is_other, passes, stands, expr_not, expr_prefix, Begun, CanRead, Climb, IsReadClosed, IsExpr, lexemes_from, takes_infix, terminal_at, token_at}
use Rattle.tokens_why.specs.declared.terminal.Terminal.TheVariants as t
use Rattle.grammar.specs.declared.symbols.Symbol.TheVariants as s
use Rattle.grammar.proofs.reading.Operators.{tail_found, tail_none}
use Rattle.parser.proofs.parse_terms.Steps.{Differ, again, and_cases, apart, begins, expand_by, extended_due, next, none_by, stands_due, start}
use Rattle.parser.proofs.parse_terms.TermSteps.{silent}
use Rattle.grammar.proofs.Tails.{infix_among}

not_low : (m : ℕ) (b : Bool) → b ≡ false → find (expr_own m b ++ extend (s.Expr m) s.Prim (s.Tail m 9 ∷ []) (λ v vs. attach v vs.0) prim_rows) t.NotWord ≡ None
not_low m false h = refl
not_low m true h = cc

-- the terminals that begin an operand and no application
abbrev firsts : List Terminal
firsts = t.NotWord ∷ t.Minus ∷ t.PrefixOperator ∷ t.IfWord ∷ t.LetWord ∷ t.ForallWord ∷ t.ExistsWord ∷ []

own_none : (m : ℕ) (b : Bool) (x : Terminal) → same t.NotWord x ≡ false → is_prefix x ≡ false → same t.IfWord x ≡ false → same t.LetWord x ≡ false → same t.ForallWord x ≡ false → same t.ExistsWord x ≡ false → find (expr_own m b) x ≡ None
own_none m b x n p i l f e = by_level b
  where
    differ : Differ firsts x
    differ = (n, (apart is_prefix t.Minus x refl p, (apart is_prefix t.PrefixOperator x refl p, (i, (l, (f, (e, tt)))))))

    by_level : (b : Bool) → find (expr_own m b) x ≡ None
    by_level true = none_by (expr_own m true) firsts x refl differ
    by_level false = none_by (expr_own m false) firsts x refl differ

module _ {xs : List Lexeme} {m i : ℕ} (c : CanRead xs (s.Expr m) i) where
  pub not_start : same t.NotWord (terminal_at xs i) ≡ true → Begun xs 1 (λ k. s.Expr m ∷ k) i (λ k. s.Expr 3 ∷ s.Tail m 3 ∷ k) (λ k us. (attach (negation (at i) us.0) us.1.0, us.1.1)) (i + 1)
  not_start e = by_level (nat_le m 3) refl
    where
      by_level : (b : Bool) → nat_le m 3 ≡ b → Begun xs 1 (λ k. s.Expr m ∷ k) i (λ k. s.Expr 3 ∷ s.Tail m 3 ∷ k) (λ k us. (attach (negation (at i) us.0) us.1.0, us.1.1)) (i + 1)
      by_level true h = let p = expand_by (start c) (stands_due c refl) (ap (find (rows (s.Expr m))) (sym (same_true t.NotWord (terminal_at xs i) e)) ∙ expr_not m (nat_le m 3) h) in again p 1 refl (λ k us. refl)
      by_level false h = absurd (begins (start c) refl (ap (find (rows (s.Expr m))) (sym (same_true t.NotWord (terminal_at xs i) e)) ∙ not_low m (nat_le m 3) h))

  pub prefix_start : is_prefix (terminal_at xs i) ≡ true → Begun xs 1 (λ k. s.Expr m ∷ k) i (λ k. s.Expr 8 ∷ s.Tail m 8 ∷ k) (λ k us. (attach (prefixed (at i) (op i (terminal_at xs i) (token_at xs i).text) us.0) us.1.0, us.1.1)) (i + 1)
  prefix_start e = let p = expand_by (start c) (stands_due c refl) (expr_prefix m (nat_le m 3) (terminal_at xs i) e) in again p 1 refl (λ k us. refl)

  module _ (n : same t.NotWord (terminal_at xs i) ≡ false) (p : is_prefix (terminal_at xs i) ≡ false) (f : same t.IfWord (terminal_at xs i) ≡ false) (l : same t.LetWord (terminal_at xs i) ≡ false) (a : same t.ForallWord (terminal_at xs i) ≡ false) (x : same t.ExistsWord (terminal_at xs i) ≡ false) where
    pub prim_start : Begun xs 0 (λ k. s.Expr m ∷ k) i (λ k. s.Prim ∷ s.Tail m 9 ∷ k) (λ k us. (attach us.0 us.1.0, us.1.1)) i
    prim_start = extended_due (start c) s.Prim (s.Tail m 9 ∷ []) (λ v vs. attach v vs.0) (expr_own m (nat_le m 3)) refl refl (own_none m (nat_le m 3) (terminal_at xs i) n p f l a x)

    pub prim_read : (e : SyntaxTree) (j : ℕ) → IsReadClosed xs s.Prim i e e j → Climb xs m i e 9 j
    prim_read e j w = let g = next prim_start w.is in let h = g.ahead in record {
      ahead = omega arith;
      within = g.within;
      first = w.first;
      can = (let q = g.reads g.can.following g.can.values g.can.reads in (g.can.following, q.0, subst (λ b. read (lexemes_from xs j) j b (s.Tail m 9 ∷ g.can.following) ≡ Some q.0) (sym w.closed) q.1));
      reads = λ k vs y. (let q = g.reads k vs y in (q.0.0, ap (λ v. v.0) (sym q.2), subst (λ b. read (lexemes_from xs j) j b (s.Tail m 9 ∷ k) ≡ Some (q.0.0, vs.1)) (sym w.closed) (q.1 ∙ ap (λ v. Some (q.0.0, v.1)) q.2)));
    }

pub unopen : (a : Bool) → not a ≡ true → a ≡ false
unopen false h = refl
unopen true h = cc

infix_some : (x : Terminal) → is_infix x ≡ true → is_other x ≡ false
infix_some t.OtherWord h = cc
infix_some _ h = refl

no_takes : (a b : Bool) → (a && b) ≡ false → a ≡ true → b ≡ false
no_takes true b h e = h
no_takes false b h e = cc

either : (o t : Bool) → (not o && t) ≡ false → (o ≡ true) ⊎ ((o ≡ false) × (t ≡ false))
either true t h = inl refl
either false t h = inr (refl, h)

module _ (xs : List Lexeme) (m i : ℕ) (e : SyntaxTree) (u j : ℕ) (g : Climb xs m i e u j) where
  module _ (h : (not (ends_open e) && takes_infix m u (terminal_at xs j)) ≡ true) where
    follows : (ends_open e ≡ false) × (is_infix (terminal_at xs j) ≡ true) × (takes_op m u (terminal_at xs j) ≡ true)
    follows = let a = and_cases (not (ends_open e)) (takes_infix m u (terminal_at xs j)) h in let b = and_cases (is_infix (terminal_at xs j)) (takes_op m u (terminal_at xs j)) a.1 in (unopen (ends_open e) a.0, b.0, b.1)

    pub link_split : (k : List Symbol) (vs : Chain × Vals k) → read (lexemes_from xs j) j (ends_open e) (s.Tail m u ∷ k) ≡ Some vs → (us : SyntaxTree × (Chain × Vals k)) × (read (lexemes_from xs (j + 1)) (j + 1) false (s.Expr (right (terminal_at xs j)) ∷ s.Tail m (prec (terminal_at xs j)) ∷ k) ≡ Some us) × ((link (op j (terminal_at xs j) (token_at xs j).text) us.0 us.1.0, us.1.1) ≡ vs)
    link_split k vs q = let f = follows in first_row xs j (s.Tail m u) (link_row m u (terminal_at xs j)) k vs (stands xs j (terminal_at xs j) refl (infix_some (terminal_at xs j) f.1)) (tail_found m u operators (terminal_at xs j) (infix_among (terminal_at xs j) f.1) f.2) (subst (λ b. read (lexemes_from xs j) j b (s.Tail m u ∷ k) ≡ Some vs) f.0 q)

    pub operator_within : j < length xs
    operator_within = stands xs j (terminal_at xs j) refl (infix_some (terminal_at xs j) follows.1)

    pub right_can : CanRead xs (s.Expr (right (terminal_at xs j))) (j + 1)
    right_can = let q = link_split g.can.0 g.can.1 g.can.2 in let w = operator_within in record { within = omega arith; following = s.Tail m (prec (terminal_at xs j)) ∷ g.can.0; values = q.0; reads = q.1 }

    pub climb_more : (f : SyntaxTree) (n : ℕ) → IsExpr xs (right (terminal_at xs j)) (j + 1) f n → Climb xs m i (joined_trees e (op j (terminal_at xs j) (token_at xs j).text) f) (prec (terminal_at xs j)) n
    climb_more f n r = let a = g.ahead in let b = r.ahead in record {
      ahead = omega arith;
      within = r.within;
      first = g.first;
      can = (let q = link_split g.can.0 g.can.1 g.can.2 in (g.can.0, q.0.1, (r.reads (s.Tail m (prec (terminal_at xs j)) ∷ g.can.0) q.0 q.1).1));
      reads = λ k vs y. (let p = g.reads k vs y in let q = link_split k (p.0, vs.1) p.2 in let z = r.reads (s.Tail m (prec (terminal_at xs j)) ∷ k) q.0 q.1 in
          (q.0.1.0, p.1 ∙ ap (attach e) (ap (λ v. v.0) (sym q.2) ∙ ap (λ v. link (op j (terminal_at xs j) (token_at xs j).text) v q.0.1.0) z.0), z.1 ∙ ap (λ v. Some (q.0.1.0, v.1)) q.2));
    }

  pub climb_done : (not (ends_open e) && takes_infix m u (terminal_at xs j)) ≡ false → IsExpr xs m i e j
  climb_done h = record { ahead = g.ahead; within = g.within; reads = λ k vs y. (let p = g.reads k vs y in let q = passed_over (either (ends_open e) (takes_infix m u (terminal_at xs j)) h) k (p.0, vs.1) p.2 in (p.1 ∙ ap (attach e) q.0, q.1)) }
    where
      passed_over : (ends_open e ≡ true) ⊎ ((ends_open e ≡ false) × (takes_infix m u (terminal_at xs j) ≡ false)) → (k : List Symbol) (vs : Chain × Vals k) → read (lexemes_from xs j) j (ends_open e) (s.Tail m u ∷ k) ≡ Some vs → (vs.0 ≡ stop) × (read (lexemes_from xs j) j (ends_open e) k ≡ Some vs.1)
      passed_over (inl o) k vs q = let z = silent (lexemes_from xs j) j m u k vs (subst (λ b. read (lexemes_from xs j) j b (s.Tail m u ∷ k) ≡ Some vs) o q) in (z.0, subst (λ b. read (lexemes_from xs j) j b k ≡ Some vs.1) (sym o) z.1)
      passed_over (inr o) k vs q = let z = passes xs j (s.Tail m u) stop k vs refl refl (tail_none m u operators (terminal_at xs j) refl (no_takes (is_infix (terminal_at xs j)) (takes_op m u (terminal_at xs j)) o.1)) (subst (λ b. read (lexemes_from xs j) j b (s.Tail m u ∷ k) ≡ Some vs) o.0 q) in (z.0, subst (λ b. read (lexemes_from xs j) j b k ≡ Some vs.1) (sym o.0) z.1)
