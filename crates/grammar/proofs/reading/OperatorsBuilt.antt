-- What is read as operators and their operands is right.
use Rattle.grammar.proofs.reading.Common.{◌≡◌, ℕ, ◌+◌, Bool, true, false, List, ◌∷◌, ◌++◌, Option, Some, refl, sym, ap, ◌∙◌, subst, append_assoc, append-nil, ◌≤◌, nat_le, ◌||◌, arith, Terminal, Symbol, and_left, and_right, Lexeme, Word, at, lx, past, is_infix, is_prefix, prec, need, right, IsLevel, IsPlacedTree, MayBeMarked, OperatorToken, SyntaxTree, ends_open, negation, op, prefixed, tight, write, write_op, Chain, attach, joined_trees, link, stop, Vals, link_row, not_rows, prefix_row, takes_op, nat_tests}
use Rattle.tokens_why.specs.declared.terminal.Terminal.TheVariants as t
use Rattle.grammar.specs.declared.symbols.Symbol.TheVariants as s
use Rattle.grammar.proofs.reading.Reading.{past-append}
use Rattle.grammar.proofs.reading.Operands.{first_placed}
use Rattle.grammar.proofs.reading.Good.{AllRows, ChainAfter, Good, IsChain, IsLast, Piece, Proper, RowOk, chain_open, hushed, write_chain}

-- what comes after a tree: its operators, or nothing where it ends in an open form
pub record TailPart (e : Bool) (m u i : ℕ) (c : Chain) (xs : List Lexeme) (next : Bool → ℕ → List Lexeme → Type 0) : Type 0 where
  pub others : List Lexeme
  pub chain : ChainAfter e m u i c
  pub writes : xs ≡ write_chain c ++ others
  pub following : next (e || chain_open c) (past i (write_chain c)) others

pub tail_part : (e : Bool) (m u i : ℕ) (c : Chain) (xs : List Lexeme) (next : Bool → ℕ → List Lexeme → Type 0) → Piece (hushed e (s.Tail m u)) (s.Tail m u) next i xs c → TailPart e m u i c xs next
tail_part true m u i c xs next g = by_stop c (some_is g.0) g.1
  where
    some_is : ◌≡◌ {A = Option Chain} (Some stop) (Some c) → c ≡ stop
    some_is h = cc

    by_stop : (c : Chain) → c ≡ stop → next true i xs → TailPart true m u i c xs next
    by_stop stop h g = record { others = xs; chain = refl; writes = refl; following = g }
    by_stop (link o f d) h g = cc
tail_part false m u i c xs next (ys, p, w, g) = record { others = ys; chain = p; writes = w; following = g }

-- A tree with the operators after it.
pub record Attached (m i : ℕ) (e : SyntaxTree) (c : Chain) : Type 0 where
  pub level : IsLevel (attach e c)
  pub placed : IsPlacedTree i (attach e c)
  pub least : m ≤ 8 → m ≤ tight (attach e c)
  pub writes : write (attach e c) ≡ write e ++ write_chain c
  pub opens : ends_open (attach e c) ≡ chain_open c

pub chain_open_link : (o : OperatorToken) (f : SyntaxTree) (c : Chain) → ends_open f ≡ false → chain_open c ≡ chain_open (link o f c)
chain_open_link o f stop h = sym h
chain_open_link o f (link p g c) h = refl

pub attach_ok : (c : Chain) (m u i : ℕ) (e : SyntaxTree) → IsLevel e → IsPlacedTree i e → ends_open e ≡ false → u ≤ tight e → (m ≤ 8 → m ≤ tight e) → IsChain m u (past i (write e)) c → Attached m i e c
attach_ok stop m u i e l p o v w h = record { level = l; placed = p; least = w; writes = sym (append-nil (write e)); opens = o }
attach_ok (link q f c) m u i e l p o v w h = by_open (ends_open f) refl h.8
    (λ k y. attach_ok c m (prec q.terminal) i (joined_trees e q f) (level_is (need_met h.3)) placed_is k (omega arith) (λ z. h.2) (rw past-append y))
  where
    need_met : need q.terminal ≤ u → need q.terminal ≤ tight e
    need_met n = omega arith

    level_is : need q.terminal ≤ tight e → IsLevel (joined_trees e q f)
    level_is n = (h.0, h.1, o, n, h.7, l, h.5)

    placed_is : IsPlacedTree i (joined_trees e q f)
    placed_is = (first_placed e i p, refl, h.4, p, h.6)

    by_open : (b : Bool) → ends_open f ≡ b → IsLast b c (IsChain m (prec q.terminal) (past (past i (write e) + 1) (write f)) c) → (ends_open f ≡ false → IsChain m (prec q.terminal) (past (past i (write e) + 1) (write f)) c → Attached m i (joined_trees e q f) c) → Attached m i e (link q f c)
    by_open true k y g = subst (λ d. Attached m i e (link q f d)) (sym y) (record { level = level_is (need_met h.3); placed = placed_is; least = λ z. h.2; writes = ap (λ v. write e ++ (write_op q ∷ v)) (sym (append-nil (write f))); opens = refl })
    by_open false k y g = let r = g k y in record { level = r.level; placed = r.placed; least = r.least; writes = r.writes ∙ append_assoc (write e) (write_op q ∷ write f) (write_chain c); opens = r.opens ∙ chain_open_link q f c k }

-- A tree with what comes after it is an expression.
pub attach_good : (m i u : ℕ) (k : List Symbol) (e : SyntaxTree) (c : Chain) (xs ys : List Lexeme) (vs : Vals k) → IsLevel e → IsPlacedTree i e → u ≤ tight e → (m ≤ 8 → m ≤ tight e) → xs ≡ write e ++ ys → TailPart (ends_open e) m u (past i (write e)) c ys (λ d j zs. Good d k j zs vs) → Good false (s.Expr m ∷ k) i xs (attach e c, vs)
attach_good m i u k e c xs ys vs l p v w x r = by_open (ends_open e) refl r.chain r.following
  where
    by_open : (b : Bool) → ends_open e ≡ b → ChainAfter b m u (past i (write e)) c → Good (b || chain_open c) k (past (past i (write e)) (write_chain c)) r.others vs → Good false (s.Expr m ∷ k) i xs (attach e c, vs)
    by_open true o y g = subst (λ d. Good false (s.Expr m ∷ k) i xs (attach e d, vs)) (sym y)
        (r.others, (l, p, w), x ∙ ap (λ z. write e ++ z) (r.writes ∙ ap (λ d. write_chain d ++ r.others) y), subst (λ b. Good b k (past i (write e)) r.others vs) (sym o) (subst (λ d. Good true k (past (past i (write e)) (write_chain d)) r.others vs) y g))
    by_open false o y g = let t = attach_ok c m u i e l p o v w y in (
      r.others,
      (t.level, t.placed, t.least),
      x ∙ ap (λ z. write e ++ z) r.writes ∙ sym (append_assoc (write e) (write_chain c) r.others) ∙ ap (λ z. z ++ r.others) (sym t.writes),
      subst (λ b. Good b k (past i (write (attach e c))) r.others vs) (sym t.opens) (subst (λ z. Good (chain_open c) k (past i z) r.others vs) (sym t.writes) (rw past-append g)),
    )

pub not_ok : (m : ℕ) (b : Bool) → (b ≡ true → m ≤ 3) → AllRows (s.Expr m) (not_rows m b)
not_ok m false h = tt
not_ok m true h = (
  λ k i w xs vs p (ys, q, e, g). attach_good m i 3 k (negation (at i) vs.0) vs.1.0 (lx t.NotWord w ∷ xs) ys vs.1.1 (q.2 (omega arith), q.0) (refl, q.1) (omega arith) (λ z. h refl) (rw (p, e) refl)
      (tail_part (ends_open vs.0) m 3 (past (i + 1) (write vs.0)) vs.1.0 ys (λ d j zs. Good d k j zs vs.1.1) g),
  tt,
)

pub prefix_ok : (m : ℕ) (o : Terminal) → is_prefix o ≡ true → ((w : Word) → Proper o w → MayBeMarked o w) → RowOk (s.Expr m) (prefix_row m o)
prefix_ok m o h f k i w xs vs p (ys, q, e, g) = attach_good m i 8 k (prefixed (at i) (op i o w) vs.0) vs.1.0 (lx o w ∷ xs) ys vs.1.1 (h, f w p, q.2 (omega arith), q.0) (refl, refl, q.1) (omega arith) (λ z. z) (rw e refl)
    (tail_part (ends_open vs.0) m 8 (past (i + 1) (write vs.0)) vs.1.0 ys (λ d j zs. Good d k j zs vs.1.1) g)

pub marked : (o : Terminal) (w : Word) → Proper o w → MayBeMarked o w
marked t.Arrow w p = p
marked t.Equiv w p = p
marked t.Disj w p = p
marked t.OrOr w p = p
marked t.Conj w p = p
marked t.AndAnd w p = p
marked t.Equal w p = p
marked t.Minus w p = p
marked _ w p = tt

pub right_small : (o : Terminal) → is_infix o ≡ true → right o ≤ 8
right_small t.Arrow h = omega arith
right_small _ h = first_of (omega arith, cc)

pub le_of : (a b : ℕ) → nat_le a b ≡ true → a ≤ b
le_of a b h = grind (arith, nat_tests)

pub link_ok : (m u : ℕ) (o : Terminal) → is_infix o ≡ true → takes_op m u o ≡ true → RowOk (s.Tail m u) (link_row m u o)
link_ok m u o h t k i w xs vs p (ys, q, e, g) = let r = tail_part (ends_open vs.0) m (prec o) (past (i + 1) (write vs.0)) vs.1.0 ys (λ d j zs. Good d k j zs vs.1.1) g in (
  r.others,
  (h, marked o w p, le_of m (prec o) (and_left (nat_le m (prec o)) (nat_le (need o) u) t), le_of (need o) u (and_right (nat_le m (prec o)) (nat_le (need o) u) t), refl, q.0, q.1, q.2 (right_small o h), last (ends_open vs.0) r.chain),
  ap (λ v. lx o w ∷ v) (e ∙ ap (λ v. write vs.0 ++ v) r.writes ∙ sym (append_assoc (write vs.0) (write_chain vs.1.0) r.others)),
  subst (λ b. Good b k (past i (lx o w ∷ (write vs.0 ++ write_chain vs.1.0))) r.others vs.1.1) (sym (opens (ends_open vs.0) refl r.chain)) (rw past-append r.following),
)
  where
    opens : (b : Bool) → ends_open vs.0 ≡ b → ChainAfter b m (prec o) (past (i + 1) (write vs.0)) vs.1.0 → chain_open (link (op i o w) vs.0 vs.1.0) ≡ (ends_open vs.0 || chain_open vs.1.0)
    opens true f y = ap (λ c. chain_open (link (op i o w) vs.0 c)) y ∙ f ∙ ap (λ b. b || chain_open vs.1.0) (sym f)
    opens false f y = sym (chain_open_link (op i o w) vs.0 vs.1.0 f) ∙ ap (λ b. b || chain_open vs.1.0) (sym f)

    last : (b : Bool) → ChainAfter b m (prec o) (past (i + 1) (write vs.0)) vs.1.0 → IsLast b vs.1.0 (IsChain m (prec o) (past (i + 1) (write vs.0)) vs.1.0)
    last true y = y
    last false y = y
