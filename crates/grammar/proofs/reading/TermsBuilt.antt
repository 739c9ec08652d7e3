-- What is read as a term is right.
use Rattle.grammar.proofs.reading.Common.{◌≡◌, ℕ, ◌+◌, Bool, true, false, cond, List, [], ◌∷◌, ◌++◌, Option, Some, None, refl, sym, ap, ◌∙◌, subst, append_assoc, append-nil, nat_le, arith, Terminal, Symbol, and_left, and_right, Lexeme, Word, at, lx, mark, past, write_called, write_form, write_own, is_infix, is_operator, is_prefix, AreAtoms, AreLevel, IsAtom, IsLevel, IsOwn, IsPlainTerm, IsLowerName, fielded_tree, tree_fields, tree_fields_tail, record_tree, lower_called, TreeFields, NameRest, Called, CasesPart, Dotted, Scoped, scope_own, UpperRest, access, accessed, with_rest, apply, args_rest, args_rows, called, cases, cast, dots_rest, group, headed_tree, scopes_name, lower, no_false, scoped, unscoped, IsPlacedTree, MayBeMarked, OperatorToken, PlacedCommas, PlacedTrees, SyntaxTree, SyntaxTrees, ends_open, more, none, op, prefixed, tight, write, write_op, write_row, write_tail, Chain, Closing, Minus, Paren, attach, after_minus, cast_to, closes_group, holds, dotted_name, named_operator, named_by, nothing, operand, own_op, paren, upper_head, ReadingRow, Vals, extend, aminus_own, aminus_row, aop_row, aparen_own, atom_rows, expr_own, expr_rows, hminus_own, hminus_row, hop_row, hparen_own, link_row, not_rows, open_rows, opname_row, prefix_row, prim_rows, tail_rows, takes_op, rows, all_infix}
use Rattle.tokens_why.specs.declared.terminal.Terminal.TheVariants as t
use Rattle.grammar.specs.declared.symbols.Symbol.TheVariants as s
use Rattle.grammar.proofs.reading.Reading.{past-append}
use Rattle.grammar.proofs.reading.FormsRead.{close_fields, field_past, regroup}
use Rattle.grammar.proofs.reading.FormsBuilt.{field_written}
use Rattle.grammar.proofs.reading.Good.{◌▸◌, AllRows, ChainAfter, Good, HasNoArgs, HasNoneBy, IsApplied, IsClosing, IsHeaded, IsMinus, IsParen, IsRest, IsHeadRest, RowOk, extend_ok, opend, write_applied, write_chain, write_closing, write_head_rest, write_minus, write_paren, write_headed, write_scoped, own_dots, IsScoped}
use Rattle.grammar.proofs.reading.TermsRight.{IsTreeNext, IsTreeRest, next_trees, write_tree_rest, AreDots, IsCases, write_branch, write_cases, write_dots}
use Rattle.grammar.proofs.reading.OperatorsBuilt.{TailPart, attach_good, attach_ok, le_of, link_ok, marked, not_ok, prefix_ok, tail_part}
use Rattle.grammar.proofs.reading.OpenBuilt.{cases_past, cases_tokens, open_ok, opens_expr}

-- rows of applications and atoms
pub head_is : (b : Bool) (i : ℕ) (w : Word) (d : UpperRest) → IsHeadRest b (i + 1) d → IsHeaded b i (upper_head w d)
head_is b i w (unscoped ts) h = (tt, h)
head_is b i w (scopes_name d) h = h

pub head_writes : (w : Word) (d : UpperRest) → write_headed (upper_head w d) ≡ lx t.Uident w ∷ write_head_rest d
head_writes w (unscoped ts) = refl
head_writes w (scopes_name d) = refl

own_is : (w : Word) (d : Option Scoped) → IsScoped d → IsOwn (scope_own w d).own
own_is w None h = tt
own_is w (Some d) h = h

name_writes : (w : Word) (d : Option Scoped) → write_scoped (scope_own w d) ≡ lx t.Uident w ∷ own_dots d
name_writes w None = refl
name_writes w (Some d) = refl

pub op_own : (b : Bool) (o : OperatorToken) → (is_operator o.terminal ≡ true) × MayBeMarked o.terminal o.text → IsOwn (own_op b o)
op_own false o h = h
op_own true o h = h

pub op_writes : (b : Bool) (o : OperatorToken) → write_own (own_op b o) ≡ mark t.LParen ∷ write_op o ∷ opend b
op_writes false o = refl
op_writes true o = refl

-- A tree that is read before operators, and its tokens.
pub record Primary (b : Bool) (i : ℕ) (e : SyntaxTree) (xs : List Lexeme) : Type 0 where
  pub level : IsLevel e
  pub placed : IsPlacedTree i e
  pub primary : tight e ≡ 9
  pub shut : ends_open e ≡ false
  pub atom : b ≡ false → IsAtom e
  pub writes : write e ≡ xs

-- A plain term with fields is one.
pub dots_ok : (b : Bool) (cs : List Called) (i : ℕ) (e : SyntaxTree) → IsPlainTerm e → IsLevel e → IsPlacedTree i e → AreDots (past i (write e)) cs → Primary b i (accessed i e cs) (write e ++ write_dots cs)
dots_ok b [] i e q l p h = record { level = l; placed = p; primary = (plain_is e q).0; shut = (plain_is e q).1; atom = λ n. (plain_is e q).2; writes = sym (append-nil (write e)) }
  where
    plain_is : (e : SyntaxTree) → IsPlainTerm e → (tight e ≡ 9) × (ends_open e ≡ false) × IsAtom e
    plain_is (apply a c none) q = (refl, refl, tt)
    plain_is (group a es) q = (refl, refl, tt)
    plain_is (cast a e f) q = (refl, refl, tt)
    plain_is (cases a es bar bs) q = (refl, refl, tt)
    plain_is (access a e c) q = (refl, refl, tt)
    plain_is (fielded_tree a cs es semi) q = (refl, refl, tt)
    plain_is (apply a c (more e es)) q = elim q [ ]
    plain_is _ q = elim q [ ]
dots_ok b (c ∷ cs) i e q l p h = let r = dots_ok b cs i (access (at i) e c) tt (q, l, h.1) (refl, p, h.0) (rw past-append h.2) in
    record { level = r.level; placed = r.placed; primary = r.primary; shut = r.shut; atom = r.atom; writes = r.writes ∙ append_assoc (write e) (mark t.Dot ∷ write_called c) (write_dots cs) }

-- A name with what comes after it is one.
pub applied_ok : (b : Bool) (i : ℕ) (c : Called) (r : NameRest) → c.at ≡ i → IsOwn c.own → IsRest b c.own (past i (write_called c)) r → Primary b i (with_rest i c r) (write_called c ++ write_applied r)
applied_ok true i c (args_rest ts) a o h = record { level = (o, h.0); placed = (refl, a, h.1); primary = refl; shut = refl; atom = λ n. absurd (no_false (sym n)); writes = refl }
applied_ok false i c (args_rest none) a o h = record { level = (o, tt); placed = (refl, a, tt); primary = refl; shut = refl; atom = λ n. tt; writes = refl }
applied_ok false i c (args_rest (more e es)) a o h = cc
applied_ok b i c (dots_rest cs) a o h = let r = dots_ok b cs i (apply (at i) c none) h.0 (o, tt) (refl, a, tt) (rw append-nil h.1) in
    record { level = r.level; placed = r.placed; primary = r.primary; shut = r.shut; atom = r.atom; writes = r.writes ∙ ap (λ v. v ++ write_dots cs) (append-nil (write_called c)) }

pub headed_ok : (b : Bool) (i : ℕ) (w : Word) (d : UpperRest) → IsHeadRest b (i + 1) d → Primary b i (headed_tree i (upper_head w d)) (lx t.Uident w ∷ write_head_rest d)
headed_ok b i w d h = let n = head_is b i w d h in subst (λ xs. Primary b i (headed_tree i (upper_head w d)) xs) (head_writes w d) (applied_ok b i (dotted_name i (upper_head w d)) (upper_head w d).rest refl n.0 n.1)

-- What is in parentheses is one.
pub paren_tree : (b : Bool) (i : ℕ) (p : Paren) → IsParen (i + 1) p → (b ≡ false → HasNoArgs p) → Primary b i (paren i p) (mark t.LParen ∷ write_paren p)
paren_tree b i (nothing cs) h n = dots_ok b cs i (group (at i) none) tt tt (refl, tt) h
paren_tree b i (named_operator o v ts) h n = record {
  level = (op_own v o (h.0.1, h.0.2), h.1);
  placed = (refl, refl, subst (λ n. PlacedTrees n ts) (sym (ap (past i) (op_writes v o))) h.2);
  primary = refl;
  shut = refl;
  atom = λ m. (subst (λ us. IsAtom (apply (at i) (called i [] (own_op v o)) us)) (sym (n m)) tt);
  writes = ap (λ v. v ++ write_row ts) (op_writes v o);
}
paren_tree b i (holds e (closes_group es cs)) h n = let r = dots_ok b cs i (group (at i) (more e es)) tt (h.0, h.2.0) (refl, (h.1, h.2.1)) (rw (append_assoc, past-append) h.2.2) in
    record { level = r.level; placed = r.placed; primary = r.primary; shut = r.shut; atom = r.atom; writes = r.writes ∙ ap (λ v. mark t.LParen ∷ v) (regroup (write e) (write_tail es) (mark t.RParen ∷ []) (write_dots cs)) }
paren_tree b i (holds e (cast_to f cs)) h n = let r = dots_ok b cs i (cast (at i) e f) tt (h.0, h.2.0) (refl, h.1, h.2.1) (rw past-append h.2.2) in
    record { level = r.level; placed = r.placed; primary = r.primary; shut = r.shut; atom = r.atom; writes = r.writes ∙ ap (λ v. mark t.LParen ∷ v) (append_assoc (write e) (mark t.Colon ∷ (write_form f ++ (mark t.RParen ∷ []))) (write_dots cs)) }

-- the tokens of a `match` after its first word
abbrev write_match : SyntaxTree → CasesPart → List Lexeme
write_match e c = (write e ++ write_tail c.others) ++ (mark t.WithWord ∷ write_branch (record { bar = c.bar; branches = c.branches }))

-- A `match` is one.
match_ok : (b : Bool) (i : ℕ) (e : SyntaxTree) (c : CasesPart) (cs : List Called) → IsLevel e → IsPlacedTree (i + 1) e → IsCases (past (i + 1) (write e)) c → AreDots (past (past (i + 1) (write e)) (write_cases c)) cs → Primary b i (accessed i (cases (at i) (more e c.others) c.bar c.branches) cs) (mark t.MatchWord ∷ (write_match e c ++ write_dots cs))
match_ok b i e c cs l p h d = dots_ok b cs i (cases (at i) (more e c.others) c.bar c.branches) tt (tt, (l, h.0), h.2.0, h.2.1) (refl, (p, h.1), rw past-append h.2.2) (subst (λ n. AreDots n cs) (cases_past e c (i + 1)) d)

-- the tokens of a record after its brace
abbrev write_braced : Called → SyntaxTree → TreeFields → List Lexeme
write_braced c e r = tree_fields (c ∷ r.names) (more e r.trees) ++ close_fields r.semi

-- A record is one.
record_ok : (b : Bool) (i : ℕ) (c : Called) (e : SyntaxTree) (r : TreeFields) (cs : List Called) → c.at ≡ i + 1 → IsLowerName c.own → IsLevel e → IsPlacedTree (past (i + 1) (write_called c) + 1) e → IsTreeRest (past (past (i + 1) (write_called c) + 1) (write e)) r.names r.trees → AreDots (past (past (past (i + 1) (write_called c) + 1) (write e)) (write_tree_rest r)) cs → Primary b i (accessed i (record_tree i c e r) cs) (mark t.LBrace ∷ (write_braced c e r ++ write_dots cs))
record_ok b i c e r cs a o l p h d = dots_ok b cs i (record_tree i c e r) tt (tt, (o, h.0), (l, h.1)) (refl, (a, p, h.2)) (subst (λ n. AreDots n cs) (sym (field_past (write_called c) (write e) (tree_fields_tail r.names r.trees) (close_fields r.semi) (i + 1))) d)

record_tokens : (c : Called) (e : SyntaxTree) (r : TreeFields) (cs : List Called) (w : Word) (xs ys zs us ws ts : List Lexeme) → xs ≡ write_called c ++ ys → w ≡ [] → ys ≡ lx t.Equal w ∷ zs → zs ≡ write e ++ us → us ≡ write_tree_rest r ++ ws → ws ≡ write_dots cs ++ ts → xs ≡ (write_braced c e r ++ write_dots cs) ++ ts
record_tokens c e r cs w xs ys zs us ws ts x m y z u v = x ∙ field_written (write_called c) (write e) (tree_fields_tail r.names r.trees) (close_fields r.semi) ys zs us (write_dots cs ++ ts) w m y z (u ∙ ap (λ q. write_tree_rest r ++ q) v) ∙ sym (append_assoc (write_braced c e r) (write_dots cs) ts)

record_past : (c : Called) (e : SyntaxTree) (r : TreeFields) (cs : List Called) (i : ℕ) → past i (write_braced c e r ++ write_dots cs) ≡ past (past (past (past i (write_called c) + 1) (write e)) (write_tree_rest r)) (write_dots cs)
record_past c e r cs i = past-append (write_braced c e r) (write_dots cs) i ∙ ap (λ n. past n (write_dots cs)) (field_past (write_called c) (write e) (tree_fields_tail r.names r.trees) (close_fields r.semi) i)

tree_next : (i : ℕ) (cs : List Called) (es : SyntaxTrees) (semi : Bool) → IsTreeNext (i + 1) cs es semi → IsTreeRest i cs es × (tree_fields_tail cs es ++ close_fields semi ≡ mark t.Semi ∷ next_trees cs es semi)
tree_next i [] none true h = ((tt, tt, tt), refl)
tree_next i [] none false h = absurd (no_false h.1)
tree_next i [] (more e es) semi h = cc
tree_next i (c ∷ cs) none semi h = absurd h.0
tree_next i (c ∷ cs) (more e es) semi h = (h, refl)

pub expr_fields_ok : AllRows s.ExprFields (rows s.ExprFields)
expr_fields_ok = (λ k i w xs vs p g. (xs, (tt, tt, tt), ap (λ v. lx t.RBrace v ∷ xs) p, g))
    ▸ (λ k i w xs vs p (ys, m, e, g). (let r = tree_next i vs.0.names vs.0.trees vs.0.semi m in (ys, r.0, ap (λ v. lx t.Semi v ∷ xs) p ∙ ap (λ v. mark t.Semi ∷ v) e ∙ ap (λ v. v ++ ys) (sym r.1), subst (λ v. Good false k (past i v) ys vs.1) (sym r.1) g)))
    ▸ tt

pub expr_field_ok : AllRows s.ExprField (rows s.ExprField)
expr_field_ok = (λ k i w xs vs p g. (xs, (refl, refl), ap (λ v. lx t.RBrace v ∷ xs) p, g))
    ▸ (λ k i w xs vs p (ys, m, e, (zs, n, d, (us, q, c, g))). (us, ((tt, q.0), (n.0, q.1), (refl, n.1, q.2)), field_written (lx t.Lident w ∷ []) (write vs.1.0) (tree_fields_tail vs.1.1.0.names vs.1.1.0.trees) (close_fields vs.1.1.0.semi) xs ys zs us vs.0.text m.1 e d c, subst (λ j. Good false k j us vs.1.1.1) (sym (field_past (lx t.Lident w ∷ []) (write vs.1.0) (tree_fields_tail vs.1.1.0.names vs.1.1.0.trees) (close_fields vs.1.1.0.semi) i)) g))
    ▸ (λ k i w xs vs p (ys, m, e, (zs, n, d, (us, q, c, (ws, o, b, (ts, r, f, g))))). (ts, ((tt, r.0), (o.0, r.1), (refl, o.1, r.2)), ap (λ v. lx t.Uident w ∷ v) (e ∙ ap (λ v. lx t.Dot v ∷ ys) m.1 ∙ ap (λ v. mark t.Dot ∷ v) d) ∙ field_written (write_called (called i (w ∷ vs.1.0.scopes) (lower vs.1.0.last))) (write vs.1.1.1.0) (tree_fields_tail vs.1.1.1.1.0.names vs.1.1.1.1.0.trees) (close_fields vs.1.1.1.1.0.semi) zs us ws ts vs.1.1.0.text q.1 c b f, subst (λ j. Good false k j ts vs.1.1.1.1.1) (sym (field_past (write_called (called i (w ∷ vs.1.0.scopes) (lower vs.1.0.last))) (write vs.1.1.1.0) (tree_fields_tail vs.1.1.1.1.0.names vs.1.1.1.1.0.trees) (close_fields vs.1.1.1.1.0.semi) i)) g))
    ▸ tt

-- It is what a rule of applications reads, or one of arguments.
prim_by : (k : List Symbol) (i : ℕ) (e : SyntaxTree) (zs xs ys : List Lexeme) (vs : Vals k) → Primary true i e xs → zs ≡ xs ++ ys → Good false k (past i xs) ys vs → Good false (s.Prim ∷ k) i zs (e, vs)
prim_by k i e zs xs ys vs r x g = (ys, (r.level, r.placed, r.primary, r.shut), x ∙ ap (λ v. v ++ ys) (sym r.writes), subst (λ v. Good false k (past i v) ys vs) (sym r.writes) g)

atom_by : (k : List Symbol) (i : ℕ) (e : SyntaxTree) (zs xs ys : List Lexeme) (vs : Vals k) → Primary false i e xs → zs ≡ xs ++ ys → Good false k (past i xs) ys vs → Good false (s.Atom ∷ k) i zs (e, vs)
atom_by k i e zs xs ys vs r x g = (ys, (r.atom refl, r.level, r.placed), x ∙ ap (λ v. v ++ ys) (sym r.writes), subst (λ v. Good false k (past i v) ys vs) (sym r.writes) g)

match_tokens : (e : SyntaxTree) (c : CasesPart) (cs : List Called) (xs ys zs ws : List Lexeme) → xs ≡ write e ++ ys → ys ≡ write_cases c ++ zs → zs ≡ write_dots cs ++ ws → xs ≡ (write_match e c ++ write_dots cs) ++ ws
match_tokens e c cs xs ys zs ws x y z = cases_tokens e c xs ys zs x y ∙ ap (λ v. write_match e c ++ v) z ∙ sym (append_assoc (write_match e c) (write_dots cs) ws)

match_past : (e : SyntaxTree) (c : CasesPart) (cs : List Called) (i : ℕ) → past i (write_match e c ++ write_dots cs) ≡ past (past (past i (write e)) (write_cases c)) (write_dots cs)
match_past e c cs i = past-append (write_match e c) (write_dots cs) i ∙ ap (λ n. past n (write_dots cs)) (sym (cases_past e c i))

pub prim_ok : AllRows s.Prim prim_rows
prim_ok = (λ k i w xs vs p (ys, q, e, g). prim_by k i (with_rest i (called i [] (lower w)) vs.0) (lx t.Lident w ∷ xs) (lx t.Lident w ∷ write_applied vs.0) ys vs.1 (applied_ok true i (called i [] (lower w)) vs.0 refl tt (lower_rest w (i + 1) vs.0 q)) (ap (λ v. lx t.Lident w ∷ v) e) g)
    ▸ (λ k i w xs vs p (ys, q, e, g). prim_by k i (headed_tree i (upper_head w vs.0)) (lx t.Uident w ∷ xs) (lx t.Uident w ∷ write_head_rest vs.0) ys vs.1 (headed_ok true i w vs.0 q) (ap (λ v. lx t.Uident w ∷ v) e) g)
    ▸ (λ k i w xs vs p (ys, q, e, g). (ys, ((tt, q.0), (refl, refl, q.1), refl, refl), ap (λ v. lx t.StarName v ∷ xs) p ∙ ap (λ v. mark t.StarName ∷ v) e, g))
    ▸ (λ k i w xs vs p (ys, q, e, g). prim_by k i (paren i vs.0) (lx t.LParen w ∷ xs) (mark t.LParen ∷ write_paren vs.0) ys vs.1 (paren_tree true i vs.0 q (λ n. absurd (no_false (sym n)))) (ap (λ v. lx t.LParen v ∷ xs) p ∙ ap (λ v. mark t.LParen ∷ v) e) g)
    ▸ (λ k i w xs vs p g. (xs, (tt, refl, refl, refl), refl, g))
    ▸ (λ k i w xs vs p g. (xs, (tt, refl, refl, refl), ap (λ v. lx t.TrueWord v ∷ xs) p, g))
    ▸ (λ k i w xs vs p g. (xs, (tt, refl, refl, refl), ap (λ v. lx t.FalseWord v ∷ xs) p, g))
    ▸ (λ k i w xs vs p (ys, q, e, (zs, n, d, (ws, m, c, g))). prim_by k i (accessed i (cases (at i) (more vs.0 vs.1.0.others) vs.1.0.bar vs.1.0.branches) vs.1.1.0) (lx t.MatchWord w ∷ xs) (mark t.MatchWord ∷ (write_match vs.0 vs.1.0 ++ write_dots vs.1.1.0)) ws vs.1.1.1 (match_ok true i vs.0 vs.1.0 vs.1.1.0 q.0 q.1 n m) (ap (λ v. lx t.MatchWord v ∷ xs) p ∙ ap (λ v. mark t.MatchWord ∷ v) (match_tokens vs.0 vs.1.0 vs.1.1.0 xs ys zs ws e d c)) (subst (λ j. Good false k j ws vs.1.1.1) (sym (match_past vs.0 vs.1.0 vs.1.1.0 (i + 1))) g))
    ▸ (λ k i w xs vs p (ys, m, e, (zs, n, d, (us, q, c, (ws, o, b, (ts, r, f, g))))). prim_by k i (accessed i (record_tree i (lower_called (i + 1) vs.0) vs.1.1.0 vs.1.1.1.0) vs.1.1.1.1.0) (lx t.LBrace w ∷ xs) (mark t.LBrace ∷ (write_braced (lower_called (i + 1) vs.0) vs.1.1.0 vs.1.1.1.0 ++ write_dots vs.1.1.1.1.0)) ts vs.1.1.1.1.1 (record_ok true i (lower_called (i + 1) vs.0) vs.1.1.0 vs.1.1.1.0 vs.1.1.1.1.0 refl tt q.0 q.1 o r) (ap (λ v. lx t.LBrace v ∷ xs) p ∙ ap (λ v. mark t.LBrace ∷ v) (record_tokens (lower_called (i + 1) vs.0) vs.1.1.0 vs.1.1.1.0 vs.1.1.1.1.0 vs.1.0.text xs ys zs us ws ts e n.1 d c b f)) (subst (λ j. Good false k j ts vs.1.1.1.1.1) (sym (record_past (lower_called (i + 1) vs.0) vs.1.1.0 vs.1.1.1.0 vs.1.1.1.1.0 (i + 1))) g))
    ▸ tt
  where
    lower_rest : (w : Word) (j : ℕ) (r : NameRest) → IsApplied j r → IsRest true (lower w) j r
    lower_rest w j (args_rest ts) h = h
    lower_rest w j (dots_rest cs) h = (tt, h)

pub atom_ok : AllRows s.Atom atom_rows
atom_ok = (λ k i w xs vs p (ys, q, e, g). atom_by k i (accessed i (apply (at i) (called i [] (lower w)) none) vs.0) (lx t.Lident w ∷ xs) (lx t.Lident w ∷ write_dots vs.0) ys vs.1 (dots_ok false vs.0 i (apply (at i) (called i [] (lower w)) none) tt (tt, tt) (refl, refl, tt) q) (ap (λ v. lx t.Lident w ∷ v) e) g)
    ▸ (λ k i w xs vs p (ys, q, e, g). atom_by k i (headed_tree i (upper_head w vs.0)) (lx t.Uident w ∷ xs) (lx t.Uident w ∷ write_head_rest vs.0) ys vs.1 (headed_ok false i w vs.0 q) (ap (λ v. lx t.Uident w ∷ v) e) g)
    ▸ (λ k i w xs vs p g. (xs, (tt, (tt, tt), (refl, refl, tt)), ap (λ v. lx t.StarName v ∷ xs) p, g))
    ▸ (λ k i w xs vs p (ys, q, e, g). atom_by k i (paren i vs.0) (lx t.LParen w ∷ xs) (mark t.LParen ∷ write_paren vs.0) ys vs.1 (paren_tree false i vs.0 q.0 (λ n. q.1)) (ap (λ v. lx t.LParen v ∷ xs) p ∙ ap (λ v. mark t.LParen ∷ v) e) g)
    ▸ (λ k i w xs vs p g. (xs, (tt, tt, refl), refl, g))
    ▸ (λ k i w xs vs p g. (xs, (tt, tt, refl), ap (λ v. lx t.TrueWord v ∷ xs) p, g))
    ▸ (λ k i w xs vs p g. (xs, (tt, tt, refl), ap (λ v. lx t.FalseWord v ∷ xs) p, g))
    ▸ (λ k i w xs vs p (ys, q, e, (zs, n, d, (ws, m, c, g))). atom_by k i (accessed i (cases (at i) (more vs.0 vs.1.0.others) vs.1.0.bar vs.1.0.branches) vs.1.1.0) (lx t.MatchWord w ∷ xs) (mark t.MatchWord ∷ (write_match vs.0 vs.1.0 ++ write_dots vs.1.1.0)) ws vs.1.1.1 (match_ok false i vs.0 vs.1.0 vs.1.1.0 q.0 q.1 n m) (ap (λ v. lx t.MatchWord v ∷ xs) p ∙ ap (λ v. mark t.MatchWord ∷ v) (match_tokens vs.0 vs.1.0 vs.1.1.0 xs ys zs ws e d c)) (subst (λ j. Good false k j ws vs.1.1.1) (sym (match_past vs.0 vs.1.0 vs.1.1.0 (i + 1))) g))
    ▸ (λ k i w xs vs p (ys, m, e, (zs, n, d, (us, q, c, (ws, o, b, (ts, r, f, g))))). atom_by k i (accessed i (record_tree i (lower_called (i + 1) vs.0) vs.1.1.0 vs.1.1.1.0) vs.1.1.1.1.0) (lx t.LBrace w ∷ xs) (mark t.LBrace ∷ (write_braced (lower_called (i + 1) vs.0) vs.1.1.0 vs.1.1.1.0 ++ write_dots vs.1.1.1.1.0)) ts vs.1.1.1.1.1 (record_ok false i (lower_called (i + 1) vs.0) vs.1.1.0 vs.1.1.1.0 vs.1.1.1.1.0 refl tt q.0 q.1 o r) (ap (λ v. lx t.LBrace v ∷ xs) p ∙ ap (λ v. mark t.LBrace ∷ v) (record_tokens (lower_called (i + 1) vs.0) vs.1.1.0 vs.1.1.1.0 vs.1.1.1.1.0 vs.1.0.text xs ys zs us ws ts e n.1 d c b f)) (subst (λ j. Good false k j ts vs.1.1.1.1.1) (sym (record_past (lower_called (i + 1) vs.0) vs.1.1.0 vs.1.1.1.0 vs.1.1.1.1.0 (i + 1))) g))
    ▸ tt

pub args_ok : AllRows s.Args (rows s.Args)
args_ok = extend_ok s.Args s.Atom (s.Args ∷ []) (λ v vs. more v vs.0) atom_rows
    (λ k i xs v vs (ys, m, e, (zs, n, d, g)). (zs, ((m.0, m.1, n.0), (m.2, n.1)), rw (e, d) (sym (append_assoc (write v) (write_row vs.0) zs)), rw past-append g)) atom_ok

-- a field's name and the fields after it
after_name : (d : Dotted) (cs : List Called) (xs ys zs : List Lexeme) → xs ≡ (scoped d.scopes ++ (lx t.Lident d.last ∷ [])) ++ ys → ys ≡ write_dots cs ++ zs → xs ≡ ((scoped d.scopes ++ (lx t.Lident d.last ∷ [])) ++ write_dots cs) ++ zs
after_name d cs xs ys zs e h = e ∙ ap (λ v. (scoped d.scopes ++ (lx t.Lident d.last ∷ [])) ++ v) h ∙ sym (append_assoc (scoped d.scopes ++ (lx t.Lident d.last ∷ [])) (write_dots cs) zs)

pub dots_rows_ok : AllRows s.Dots (rows s.Dots)
dots_rows_ok = (λ k i w xs vs p (ys, m, e, (zs, n, d, g)). (zs, (refl, tt, n), ap (λ v. lx t.Dot v ∷ xs) p ∙ ap (λ v. mark t.Dot ∷ v) (after_name vs.0 vs.1.0 xs ys zs e d), rw past-append g), tt)

pub applied_rows_ok : AllRows s.Applied (rows s.Applied)
applied_rows_ok = (
  λ k i w xs vs p (ys, m, e, (zs, n, d, g)). (zs, (refl, tt, n), ap (λ v. lx t.Dot v ∷ xs) p ∙ ap (λ v. mark t.Dot ∷ v) (after_name vs.0 vs.1.0 xs ys zs e d), rw past-append g),
  extend_ok s.Applied s.Args [] (λ v vs. args_rest v) args_rows (λ k i xs v vs g. g) args_ok,
)

pub head_rest_ok : (b : Bool) → AllRows (s.HeadRest b) (rows (s.HeadRest b))
head_rest_ok true = (
  λ k i w xs vs p (ys, m, e, g). (ys, m, ap (λ v. lx t.Dot v ∷ xs) p ∙ ap (λ v. mark t.Dot ∷ v) e, g),
  extend_ok (s.HeadRest true) s.Args [] (λ v vs. unscoped v) args_rows (λ k i xs v vs g. g) args_ok,
)
head_rest_ok false = (λ k i w xs vs p (ys, m, e, g). (ys, m, ap (λ v. lx t.Dot v ∷ xs) p ∙ ap (λ v. mark t.Dot ∷ v) e, g), tt)

pub scoped_ok : AllRows s.Scoped (rows s.Scoped)
scoped_ok = (λ k i w xs vs p (ys, m, e, g). (ys, m, ap (λ v. lx t.Dot v ∷ xs) p ∙ ap (λ v. mark t.Dot ∷ v) e, g), tt)

pub opname_row_ok : (o : Terminal) → is_operator o ≡ true → RowOk s.Opname (opname_row o)
opname_row_ok o h k i w xs vs p (ys, m, e, g) = (ys, (refl, h, marked o w p), ap (λ v. lx o w ∷ v) e, g)

-- a name that is one in a scope, after it
scope_by : (b : Bool) (k : List Symbol) (i : ℕ) (w : Word) (xs ys : List Lexeme) (d : UpperRest) (vs : Vals k) → IsHeadRest b (i + 1) d → xs ≡ write_head_rest d ++ ys → Good false k (past (i + 1) (write_head_rest d)) ys vs → Good false (s.Head b ∷ k) i (lx t.Uident w ∷ xs) (upper_head w d, vs)
scope_by b k i w xs ys d vs q e g = (ys, head_is b i w d q, ap (λ v. lx t.Uident w ∷ v) e ∙ ap (λ v. v ++ ys) (sym (head_writes w d)), subst (λ v. Good false k (past i v) ys vs) (sym (head_writes w d)) g)

pub head_ok : (b : Bool) → AllRows (s.Head b) (rows (s.Head b))
head_ok true = (λ k i w xs vs p (ys, q, e, g). (ys, (tt, lower_rest w (i + 1) vs.0 q), ap (λ v. lx t.Lident w ∷ v) e, g))
    ▸ (λ k i w xs vs p (ys, q, e, g). scope_by true k i w xs ys vs.0 vs.1 q e g)
    ▸ (λ k i w xs vs p (ys, q, e, g). (ys, (tt, q), ap (λ v. lx t.StarName v ∷ xs) p ∙ ap (λ v. mark t.StarName ∷ v) e, g))
    ▸ (λ k i w xs vs p (ys, q, e, (zs, n, d, g)). (zs, (op_own vs.0.prefix vs.0.op (q.1, q.2), subst (λ v. AreAtoms vs.1.0 × PlacedTrees (past i v) vs.1.0) (sym (op_writes vs.0.prefix vs.0.op)) n), ap (λ v. lx t.LParen v ∷ xs) p ∙ ap (λ v. mark t.LParen ∷ v) (e ∙ ap (λ v. (write_op vs.0.op ∷ opend vs.0.prefix) ++ v) d ∙ sym (append_assoc (write_op vs.0.op ∷ opend vs.0.prefix) (write_row vs.1.0) zs)) ∙ ap (λ v. (v ++ write_row vs.1.0) ++ zs) (sym (op_writes vs.0.prefix vs.0.op)), subst (λ v. Good false k (past i (v ++ write_row vs.1.0)) zs vs.1.1) (sym (op_writes vs.0.prefix vs.0.op)) (rw past-append g)))
    ▸ tt
  where
    lower_rest : (w : Word) (j : ℕ) (r : NameRest) → IsApplied j r → IsRest true (lower w) j r
    lower_rest w j (args_rest ts) h = h
    lower_rest w j (dots_rest cs) h = (tt, h)
head_ok false = (λ k i w xs vs p (ys, q, e, g). (ys, (tt, (tt, q)), ap (λ v. lx t.Lident w ∷ v) e, g))
    ▸ (λ k i w xs vs p (ys, q, e, g). scope_by false k i w xs ys vs.0 vs.1 q e g)
    ▸ (λ k i w xs vs p g. (xs, (tt, refl), ap (λ v. lx t.StarName v ∷ xs) p, g))
    ▸ (λ k i w xs vs p (ys, q, e, g). (ys, (op_own vs.0.prefix vs.0.op (q.1, q.2), refl), ap (λ v. lx t.LParen v ∷ xs) p ∙ ap (λ v. mark t.LParen ∷ v) e ∙ ap (λ v. v ++ ys) (sym (append-nil (write_own (own_op vs.0.prefix vs.0.op)) ∙ op_writes vs.0.prefix vs.0.op)), subst (λ v. Good false k (past i v) ys vs.1) (sym (append-nil (write_own (own_op vs.0.prefix vs.0.op)) ∙ op_writes vs.0.prefix vs.0.op)) g))
    ▸ tt

pub qhead_ok : AllRows s.Qhead (rows s.Qhead)
qhead_ok = (λ k i w xs vs p g. (xs, tt, refl, g))
    ▸ (λ k i w xs vs p (ys, q, e, g). (ys, own_is w vs.0 q, ap (λ v. lx t.Uident w ∷ v) e ∙ ap (λ v. v ++ ys) (sym (name_writes w vs.0)), subst (λ v. Good false k (past i v) ys vs.1) (sym (name_writes w vs.0)) g))
    ▸ (λ k i w xs vs p g. (xs, tt, ap (λ v. lx t.StarName v ∷ xs) p, g))
    ▸ (λ k i w xs vs p (ys, q, e, g). (ys, op_own vs.0.prefix vs.0.op (q.1, q.2), ap (λ v. lx t.LParen v ∷ xs) p ∙ ap (λ v. mark t.LParen ∷ v) e ∙ ap (λ v. v ++ ys) (sym (op_writes vs.0.prefix vs.0.op)), subst (λ v. Good false k (past i v) ys vs.1) (sym (op_writes vs.0.prefix vs.0.op)) g))
    ▸ tt

pub opname_ok : AllRows s.Opname (rows s.Opname)
opname_ok = opname_row_ok t.Equal refl
    ▸ opname_row_ok t.Minus refl
    ▸ opname_row_ok t.Operator1 refl
    ▸ opname_row_ok t.Operator2 refl
    ▸ opname_row_ok t.Operator3 refl
    ▸ opname_row_ok t.Operator4 refl
    ▸ opname_row_ok t.PrefixOperator refl
    ▸ tt

pub opend_ok : AllRows s.Opend (rows s.Opend)
opend_ok = (λ k i w xs vs p g. (xs, tt, ap (λ v. lx t.RParen v ∷ xs) p, g), (λ k i w xs vs p (ys, m, e, g). (ys, tt, ap (λ v. lx t.Wild v ∷ xs) p ∙ ap (λ v. mark t.Wild ∷ v) (e ∙ ap (λ v. lx t.RParen v ∷ ys) m.1), g), tt))

pub hop_ok : (o : Terminal) → is_operator o ≡ true → RowOk s.Hparen (hop_row o)
hop_ok o h k i w xs vs p (ys, m, e, (zs, n, d, g)) = (zs, ((refl, h, marked o w p), n.0, n.1), ap (λ v. lx o w ∷ v) (e ∙ ap (λ v. opend vs.0 ++ v) d ∙ sym (append_assoc (opend vs.0) (write_row vs.1.0) zs)), rw past-append g)

pub aop_ok : (o : Terminal) → is_operator o ≡ true → RowOk s.Aparen (aop_row o)
aop_ok o h k i w xs vs p (ys, m, e, g) = (ys, (((refl, h, marked o w p), tt, tt), refl), ap (λ v. lx o w ∷ v) (e ∙ ap (λ v. v ++ ys) (sym (append-nil (opend vs.0)))), rw append-nil g)

-- A prefix operator before what may be its operand or end its name.
pub record MinusParen (i : ℕ) (o : OperatorToken) (n : Minus) : Type 0 where
  pub is : IsParen i (after_minus o n)
  pub writes : write_paren (after_minus o n) ≡ write_op o ∷ write_minus n

pub minus_paren : (i : ℕ) (o : OperatorToken) (n : Minus) → is_prefix o.terminal ≡ true → is_operator o.terminal ≡ true → MayBeMarked o.terminal o.text → o.at ≡ i → IsMinus (i + 1) n → MinusParen i o n
minus_paren i o (named_by b ts) x y z a h = record { is = ((a, y, z), h.0, h.1); writes = refl }
minus_paren i o (operand e c z) x y w a h = by_open (ends_open e) refl h.3
  where
    level_is : IsLevel (prefixed (at o.at) o e)
    level_is = (x, w, h.2, h.0)

    placed_is : IsPlacedTree i (prefixed (at o.at) o e)
    placed_is = (ap at a, a, h.1)

    by_open : (b : Bool) → ends_open e ≡ b → ChainAfter b 0 8 (past (i + 1) (write e)) c → MinusParen i o (operand e c z)
    by_open true q y = subst (λ d. IsClosing (past (past (i + 1) (write e)) (write_chain d)) z → MinusParen i o (operand e d z)) (sym y) (λ u. record { is = (level_is, placed_is, u); writes = refl }) h.4
    by_open false q y = let r = attach_ok c 0 8 i (prefixed (at o.at) o e) level_is placed_is q (omega arith) (λ v. omega arith) y in record {
      is = (r.level, r.placed, subst (λ v. IsClosing (past i v) z) (sym r.writes) (rw past-append h.4));
      writes = ap (λ v. v ++ write_closing z) r.writes ∙ append_assoc (write_op o ∷ write e) (write_chain c) (write_closing z);
    }

pub hminus_row_ok : (o : Terminal) → is_prefix o ≡ true → is_operator o ≡ true → RowOk s.Hparen (hminus_row o)
hminus_row_ok o x y k i w xs vs p (ys, m, e, g) = let r = minus_paren i (op i o w) vs.0 x y (marked o w p) refl m in (ys, r.is, ap (λ v. lx o w ∷ v) e ∙ ap (λ v. v ++ ys) (sym r.writes), subst (λ v. Good false k (past i v) ys vs.1) (sym r.writes) g)

pub no_args_of : (o : OperatorToken) (n : Minus) → HasNoneBy n → HasNoArgs (after_minus o n)
no_args_of o (named_by b ts) h = h
no_args_of o (operand e c z) h = tt

pub aminus_row_ok : (o : Terminal) → is_prefix o ≡ true → is_operator o ≡ true → RowOk s.Aparen (aminus_row o)
aminus_row_ok o x y k i w xs vs p (ys, m, e, g) = let r = minus_paren i (op i o w) vs.0 x y (marked o w p) refl m.0 in (ys, (r.is, no_args_of (op i o w) vs.0 m.1), ap (λ v. lx o w ∷ v) e ∙ ap (λ v. v ++ ys) (sym r.writes), subst (λ v. Good false k (past i v) ys vs.1) (sym r.writes) g)

pub append_ok : (s : Symbol) (as_ bs : List (ReadingRow s)) → AllRows s as_ → AllRows s bs → AllRows s (as_ ++ bs)
append_ok s [] bs h i = i
append_ok s (a ∷ as_) bs h i = (h.0, append_ok s as_ bs h.1 i)

pub expr_ok : (m : ℕ) → AllRows (s.Expr m) (expr_rows m)
expr_ok m = append_ok (s.Expr m) (expr_own m (nat_le m 3)) (extend (s.Expr m) s.Prim (s.Tail m 9 ∷ []) (λ v vs. attach v vs.0) prim_rows)
    (append_ok (s.Expr m) (not_rows m (nat_le m 3)) (prefix_row m t.Minus ∷ prefix_row m t.PrefixOperator ∷ open_rows (s.Expr m) (λ e. e)) (not_ok m (nat_le m 3) (le_of m 3)) (prefix_ok m t.Minus refl (marked t.Minus), (prefix_ok m t.PrefixOperator refl (marked t.PrefixOperator), open_ok (s.Expr m) (λ e. e) (opens_expr m))))
    (extend_ok (s.Expr m) s.Prim (s.Tail m 9 ∷ []) (λ v vs. attach v vs.0) prim_rows
    (λ k i xs v vs (ys, q, e, g). attach_good m i 9 k v vs.0 xs ys vs.1 q.0 q.1 (omega (arith, q.2)) (λ z. omega (arith, q.2)) e (subst (λ b. TailPart b m 9 (past i (write v)) vs.0 ys (λ d j zs. Good d k j zs vs.1)) (sym q.3) (tail_part false m 9 (past i (write v)) vs.0 ys (λ d j zs. Good d k j zs vs.1) g))) prim_ok)

pub holds_ok : (k : List Symbol) (i : ℕ) (xs : List Lexeme) (e : SyntaxTree) (vs : Closing × Vals k) → Good false (s.Expr 0 ∷ s.GroupRest ∷ k) i xs (e, vs) → Good false (s.Hparen ∷ k) i xs (holds e vs.0, vs.1)
holds_ok k i xs e vs (ys, q, x, g) = let r = g in (r.0, (q.0, q.1, r.1), x ∙ ap (λ v. write e ++ v) r.2 ∙ sym (append_assoc (write e) (write_closing vs.0) r.0), rw past-append r.3)

pub hparen_ok : AllRows s.Hparen (rows s.Hparen)
hparen_ok = append_ok s.Hparen hparen_own (extend s.Hparen (s.Expr 0) (s.GroupRest ∷ []) (λ v vs. holds v vs.0) (expr_rows 0))
    (λ k i w xs vs p (ys, q, e, g). (ys, q, ap (λ v. lx t.RParen v ∷ xs) p ∙ ap (λ v. mark t.RParen ∷ v) e, g), (hop_ok t.Equal refl, (hop_ok t.Operator1 refl, (hop_ok t.Operator2 refl, (hop_ok t.Operator3 refl, (hop_ok t.Operator4 refl, (hminus_row_ok t.Minus refl refl, (hminus_row_ok t.PrefixOperator refl refl, tt))))))))
    (extend_ok s.Hparen (s.Expr 0) (s.GroupRest ∷ []) (λ v vs. holds v vs.0) (expr_rows 0) (λ k i xs v vs g. holds_ok k i xs v vs g) (expr_ok 0))

pub aparen_ok : AllRows s.Aparen (rows s.Aparen)
aparen_ok = append_ok s.Aparen aparen_own (extend s.Aparen (s.Expr 0) (s.GroupRest ∷ []) (λ v vs. holds v vs.0) (expr_rows 0))
    (λ k i w xs vs p (ys, q, e, g). (ys, (q, tt), ap (λ v. lx t.RParen v ∷ xs) p ∙ ap (λ v. mark t.RParen ∷ v) e, g), (aop_ok t.Equal refl, (aop_ok t.Operator1 refl, (aop_ok t.Operator2 refl, (aop_ok t.Operator3 refl, (aop_ok t.Operator4 refl, (aminus_row_ok t.Minus refl refl, (aminus_row_ok t.PrefixOperator refl refl, tt))))))))
    (extend_ok s.Aparen (s.Expr 0) (s.GroupRest ∷ []) (λ v vs. holds v vs.0) (expr_rows 0) (λ k i xs v vs g. (let r = holds_ok k i xs v vs g in (r.0, (r.1, tt), r.2, r.3))) (expr_ok 0))

pub operand_ok : (k : List Symbol) (i : ℕ) (xs : List Lexeme) (e : SyntaxTree) (vs : Chain × (Closing × Vals k)) → Good false (s.Expr 8 ∷ s.Tail 0 8 ∷ s.GroupRest ∷ k) i xs (e, vs) → Good false (s.Hminus ∷ k) i xs (operand e vs.0 vs.1.0, vs.1.1)
operand_ok k i xs e vs (ys, q, x, g) = let r = tail_part (ends_open e) 0 8 (past i (write e)) vs.0 ys (λ d j zs. Good d (s.GroupRest ∷ k) j zs vs.1) g in
    let f = r.following in (
      f.0,
      (q.0, q.1, q.2 (omega arith), r.chain, f.1),
      x ∙ ap (λ v. write e ++ v) (r.writes ∙ ap (λ v. write_chain vs.0 ++ v) f.2 ∙ sym (append_assoc (write_chain vs.0) (write_closing vs.1.0) f.0)) ∙ sym (append_assoc (write e) (write_chain vs.0 ++ write_closing vs.1.0) f.0),
      subst (λ n. Good false k n f.0 vs.1.1) (sym (past-append (write e) (write_chain vs.0 ++ write_closing vs.1.0) i ∙ past-append (write_chain vs.0) (write_closing vs.1.0) (past i (write e)))) f.3,
    )

pub hminus_ok : AllRows s.Hminus (rows s.Hminus)
hminus_ok = append_ok s.Hminus hminus_own (extend s.Hminus (s.Expr 8) (s.Tail 0 8 ∷ s.GroupRest ∷ []) (λ v vs. operand v vs.0 vs.1.0) (expr_rows 8))
    (λ k i w xs vs p (ys, m, e, g). (ys, m, ap (λ v. lx t.RParen v ∷ xs) p ∙ ap (λ v. mark t.RParen ∷ v) e, g), (λ k i w xs vs p (ys, m, e, (zs, n, d, g)). (zs, n, ap (λ v. lx t.Wild v ∷ xs) p ∙ ap (λ v. mark t.Wild ∷ v) (e ∙ ap (λ v. lx t.RParen v ∷ ys) m.1 ∙ ap (λ v. mark t.RParen ∷ v) d), g), tt))
    (extend_ok s.Hminus (s.Expr 8) (s.Tail 0 8 ∷ s.GroupRest ∷ []) (λ v vs. operand v vs.0 vs.1.0) (expr_rows 8) (λ k i xs v vs g. operand_ok k i xs v vs g) (expr_ok 8))

pub aminus_ok : AllRows s.Aminus (rows s.Aminus)
aminus_ok = append_ok s.Aminus aminus_own (extend s.Aminus (s.Expr 8) (s.Tail 0 8 ∷ s.GroupRest ∷ []) (λ v vs. operand v vs.0 vs.1.0) (expr_rows 8))
    (λ k i w xs vs p g. (xs, ((tt, tt), refl), ap (λ v. lx t.RParen v ∷ xs) p, g), (λ k i w xs vs p (ys, m, e, g). (ys, ((tt, tt), refl), ap (λ v. lx t.Wild v ∷ xs) p ∙ ap (λ v. mark t.Wild ∷ v) (e ∙ ap (λ v. lx t.RParen v ∷ ys) m.1), g), tt))
    (extend_ok s.Aminus (s.Expr 8) (s.Tail 0 8 ∷ s.GroupRest ∷ []) (λ v vs. operand v vs.0 vs.1.0) (expr_rows 8) (λ k i xs v vs g. (let r = operand_ok k i xs v vs g in (r.0, (r.1, tt), r.2, r.3))) (expr_ok 8))

pub listed_ok : (k : List Symbol) (i : ℕ) (xs : List Lexeme) (e : SyntaxTree) (vs : SyntaxTrees × Vals k) → Good false (s.Expr 0 ∷ s.More ∷ k) (i + 1) xs (e, vs) → (zs : List Lexeme) × (AreLevel (more e vs.0) × PlacedCommas (i + 1) (more e vs.0)) × (mark t.Comma ∷ xs ≡ (write_tail (more e vs.0) ++ (mark t.RParen ∷ [])) ++ zs) × Good false k (past i (write_tail (more e vs.0) ++ (mark t.RParen ∷ []))) zs vs.1
listed_ok k i xs e vs (ys, q, x, g) = let r = g in
    (r.0, ((q.0, r.1.0), (q.1, r.1.1)), ap (λ v. mark t.Comma ∷ v) (x ∙ ap (λ v. write e ++ v) r.2 ∙ sym (regroup (write e) (write_tail vs.0) (mark t.RParen ∷ []) r.0)), subst (λ n. Good false k n r.0 vs.1) (sym (ap (past (i + 1)) (append_assoc (write e) (write_tail vs.0) (mark t.RParen ∷ [])) ∙ past-append (write e) (write_tail vs.0 ++ (mark t.RParen ∷ [])) (i + 1))) r.3)

pub more_ok : AllRows s.More (rows s.More)
more_ok = (λ k i w xs vs p g. (xs, (tt, tt), ap (λ v. lx t.RParen v ∷ xs) p, g), (λ k i w xs vs p g. (let r = listed_ok k i xs vs.0 vs.1 g in (r.0, r.1, ap (λ v. lx t.Comma v ∷ xs) p ∙ r.2, r.3)), tt))

pub rest_ok : AllRows s.GroupRest (rows s.GroupRest)
rest_ok = (λ k i w xs vs p (ys, q, e, g). (ys, (tt, tt, q), ap (λ v. lx t.RParen v ∷ xs) p ∙ ap (λ v. mark t.RParen ∷ v) e, g))
    ▸ (λ k i w xs vs p g. (let r = listed_ok (s.Dots ∷ k) i xs vs.0 vs.1 g in let d = r.3 in (d.0, (r.1.0, r.1.1, d.1), ap (λ v. lx t.Comma v ∷ xs) p ∙ r.2 ∙ ap (λ v. (write_tail (more vs.0 vs.1.0) ++ (mark t.RParen ∷ [])) ++ v) d.2 ∙ sym (append_assoc (write_tail (more vs.0 vs.1.0) ++ (mark t.RParen ∷ [])) (write_dots vs.1.1.0) d.0), subst (λ n. Good false k n d.0 vs.1.1.1) (sym (past-append (write_tail (more vs.0 vs.1.0) ++ (mark t.RParen ∷ [])) (write_dots vs.1.1.0) i)) d.3)))
    ▸ (λ k i w xs vs p (ys, q, e, (zs, n, d, (ws, m, c, g))). (ws, (q.0, q.1, rw past-append m), ap (λ v. lx t.Colon v ∷ xs) p ∙ ap (λ v. mark t.Colon ∷ v) (e ∙ ap (λ v. write_form vs.0 ++ v) (d ∙ ap (λ v. lx t.RParen v ∷ zs) n.1 ∙ ap (λ v. mark t.RParen ∷ v) c) ∙ sym (append_assoc (write_form vs.0) (mark t.RParen ∷ []) (write_dots vs.1.1.0 ++ ws)) ∙ sym (append_assoc (write_form vs.0 ++ (mark t.RParen ∷ [])) (write_dots vs.1.1.0) ws)), rw (past-append, past-append) g))
    ▸ tt

pub tail_ok : (m u : ℕ) (os : List Terminal) → all_infix os ≡ true → AllRows (s.Tail m u) (tail_rows m u os)
tail_ok m u [] h = tt
tail_ok m u (o ∷ os) h = by_test (takes_op m u o) refl (and_left (is_infix o) (all_infix os) h) (tail_ok m u os (and_right (is_infix o) (all_infix os) h))
  where
    by_test : (b : Bool) → takes_op m u o ≡ b → is_infix o ≡ true → AllRows (s.Tail m u) (tail_rows m u os) → AllRows (s.Tail m u) (cond b (link_row m u o ∷ tail_rows m u os) (tail_rows m u os))
    by_test true e i r = (link_ok m u o i e, r)
    by_test false e i r = r
