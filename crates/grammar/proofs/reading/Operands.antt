-- Operands: where they end, and what comes after them.
use Rattle.grammar.proofs.reading.Common.{◌≡◌, ℕ, ◌+◌, ◌≤◌, Bool, true, false, nat_le, cond, List, [], ◌∷◌, ◌++◌, Some, None, refl, sym, ap, ◌∙◌, append_assoc, arith, Terminal, Symbol, terminal_number, prec, need, right, is_infix, is_tail, same, same_refl, no_false, At, Lexeme, Word, mark, name, SyntaxForm, IsForm, IsPlaced, Own, infix_op, lower, past, prefix_op, scoped, star, type_forms, upper, write_called, write_form, write_own, Called, IsPlainTerm, access, fielded_tree, tree_fields_tail, AreAtoms, Branches, IsLevel, IsPlacedTree, OperatorToken, SyntaxTree, SyntaxTrees, apply, binary, binding, branch, cases, cast, choice, ends_open, falsity, group, literal, more, negation, no_branch, none, op, prefixed, quantified, terms_tail, tight, truth, write, write_op, write_others, write_row, write_tail, Chain, attach, cast_to, first_token, joined_trees, stop, Vals, row, expr_own, rows, find, read}
use Rattle.tokens_why.specs.declared.terminal.Terminal.TheVariants as t
use Rattle.grammar.specs.declared.symbols.Symbol.TheVariants as s
use Rattle.grammar.proofs.reading.Reading.{Reads, extended, passed, past-append}
use Rattle.grammar.proofs.reading.FormsRead.{close_fields, reads_type}
use Rattle.grammar.proofs.reading.Operators.{Follow, NoDot, Rest, RestBy, low_zero, need_more, ops_weaker, reach, reads_by, right_more, tail_stops}
use Rattle.grammar.proofs.reading.TermRowsRead.{expr_extend}

pub first_placed : (e : SyntaxTree) (i : ℕ) → IsPlacedTree i e → first_token e ≡ i
first_placed (apply a c ts) i p = ap (λ v. v.first) p.0
first_placed (literal a w) i p = ap (λ v. v.first) p
first_placed (truth a) i p = ap (λ v. v.first) p
first_placed (falsity a) i p = ap (λ v. v.first) p
first_placed (group a ts) i p = ap (λ v. v.first) p.0
first_placed (cast a e f) i p = ap (λ v. v.first) p.0
first_placed (prefixed a o e) i p = ap (λ v. v.first) p.0
first_placed (negation a e) i p = ap (λ v. v.first) p.0
first_placed (binary a e o f) i p = p.0
first_placed (choice a c e f) i p = ap (λ v. v.first) p.0
first_placed (cases a es bar bs) i p = ap (λ v. v.first) p.0
first_placed (access a e c) i p = ap (λ v. v.first) p.0
first_placed (fielded_tree a cs es semi) i p = ap (λ v. v.first) p.0
first_placed (binding a ps e f) i p = ap (λ v. v.first) p.0
first_placed (quantified a all bs g e) i p = ap (λ v. v.first) p.0

pub op_args : (o : Terminal) → is_infix o ≡ true → find (rows s.Args) o ≡ None
op_args t.Arrow h = refl
op_args _ h = cc

pub op_dots : (o : Terminal) → is_infix o ≡ true → same t.Dot o ≡ false
op_dots t.Dot h = cc
op_dots _ h = refl

pub within_left : (m : ℕ) (o : OperatorToken) (e : SyntaxTree) → m ≤ prec o.terminal → is_infix o.terminal ≡ true → need o.terminal ≤ tight e → m ≤ tight e
within_left m o e u i n = let q : prec o.terminal ≤ need o.terminal = need_more o.terminal i in omega arith

pub within_right : (o : OperatorToken) (f : SyntaxTree) → is_infix o.terminal ≡ true → right o.terminal ≤ tight f → prec o.terminal ≤ tight f
within_right o f i n = let q : prec o.terminal ≤ right o.terminal = right_more o.terminal i in omega arith

pub as_prim : (m : ℕ) (xs : List Lexeme) (i : ℕ) (k : List Symbol) (e : SyntaxTree) (c : Chain) (vs : Vals k) → Reads (s.Prim ∷ s.Tail m 9 ∷ k) xs i (e, (c, vs)) → Reads (s.Expr m ∷ k) xs i (attach e c, vs)
as_prim m xs i k e c vs h = extended (s.Expr m) s.Prim (s.Tail m 9 ∷ []) (λ v vs. attach v vs.0) (expr_own m (nat_le m 3)) (expr_extend m) xs i k e (c, vs) h

-- no field begins where a term does
pub plain_dots : (e : SyntaxTree) (zs : List Lexeme) → IsPlainTerm e → IsLevel e → NoDot (write e ++ zs)
plain_dots (apply a c none) zs p l = by_scopes c.scopes c.own
  where
    by_scopes : (qs : List Word) (o : Own) → NoDot (((scoped qs ++ write_own o) ++ []) ++ zs)
    by_scopes [] (lower w) = refl
    by_scopes [] (upper w) = refl
    by_scopes [] (infix_op o w) = refl
    by_scopes [] (prefix_op o w) = refl
    by_scopes [] star = refl
    by_scopes (q ∷ qs) o = refl
plain_dots (group a ts) zs p l = refl
plain_dots (cast a e f) zs p l = refl
plain_dots (cases a ts bar bs) zs p l = refl
plain_dots (fielded_tree a cs es semi) zs p l = refl
plain_dots (access a e c) zs p l = rw (append_assoc (write e) (mark t.Dot ∷ write_called c) zs) (plain_dots e ((mark t.Dot ∷ write_called c) ++ zs) l.0 l.1)
plain_dots (apply a c (more e es)) zs p l = elim p [ ]
plain_dots _ zs p l = elim p [ ]

-- none begins where atoms side by side do
pub row_dots : (ts : SyntaxTrees) (ys : List Lexeme) → AreAtoms ts → NoDot ys → NoDot (write_row ts ++ ys)
row_dots none ys l n = n
row_dots (more (apply a c none) es) ys l n = by_scopes c.scopes c.own
  where
    by_scopes : (qs : List Word) (o : Own) → NoDot ((((scoped qs ++ write_own o) ++ []) ++ write_row es) ++ ys)
    by_scopes [] (lower w) = refl
    by_scopes [] (upper w) = refl
    by_scopes [] (infix_op o w) = refl
    by_scopes [] (prefix_op o w) = refl
    by_scopes [] star = refl
    by_scopes (q ∷ qs) o = refl
row_dots (more (apply a c (more f fs)) es) ys l n = elim l.0 [ ]
row_dots (more (literal a w) es) ys l n = refl
row_dots (more (truth a) es) ys l n = refl
row_dots (more (falsity a) es) ys l n = refl
row_dots (more (group a ts) es) ys l n = refl
row_dots (more (cast a e f) es) ys l n = refl
row_dots (more (prefixed a o e) es) ys l n = elim l.0 [ ]
row_dots (more (negation a e) es) ys l n = elim l.0 [ ]
row_dots (more (binary a e o f) es) ys l n = elim l.0 [ ]
row_dots (more (choice a c e f) es) ys l n = elim l.0 [ ]
row_dots (more (cases a ts bar bs) es) ys l n = refl
row_dots (more (fielded_tree a cs fs semi) es) ys l n = refl
row_dots (more (access a e c) es) ys l n = rw (append_assoc (write e ++ (mark t.Dot ∷ write_called c)) (write_row es) ys) (plain_dots (access a e c) (write_row es ++ ys) tt l.1)
row_dots (more (binding a ps e f) es) ys l n = elim l.0 [ ]
row_dots (more (quantified a all bs g e) es) ys l n = elim l.0 [ ]

pub follow_within : (b : Bool) (n p : ℕ) (ys : List Lexeme) → n ≤ p → Follow (cond b 0 n) ys → Follow (cond b 0 p) ys
follow_within true n p ys h f = f
follow_within false n p ys h f = record { args = f.args; dots = f.dots; ops = ops_weaker n p ys h f.ops }

pub follow_any : (n : ℕ) (ys : List Lexeme) → Follow 0 ys → Follow n ys
follow_any n ys f = record { args = f.args; dots = f.dots; ops = ops_weaker 0 n ys (omega arith) f.ops }

pub unsealed : (zs : List Lexeme) (j : ℕ) (top : Symbol) (k : List Symbol) → is_tail top ≡ false → read zs j true (top ∷ k) ≡ read zs j false (top ∷ k)
unsealed [] j top k h = refl
unsealed (x ∷ xs) j top k h = rw h refl

-- a whole expression before what is no operator
pub whole : (b : Bool) (u : ℕ) (zs : List Lexeme) (j : ℕ) (top : Symbol) (k : List Symbol) (vs : Vals (top ∷ k)) → is_tail top ≡ false → Follow 0 zs → Reads (top ∷ k) zs j vs → RestBy b 0 u zs j (top ∷ k) stop vs
whole true u zs j top k vs q f h = (refl, unsealed zs j top k q ∙ h)
whole false u zs j top k vs q f h = passed (s.Tail 0 u) stop (top ∷ k) zs j vs refl refl (tail_stops 0 u zs (low_zero 0 zs f.ops)) h

abbrev pub ReadsExpr : SyntaxTree → Type 0
ReadsExpr e = (m : ℕ) (ys : List Lexeme) (i : ℕ) (k : List Symbol) (c : Chain) (vs : Vals k) → IsLevel e → IsPlacedTree i e → m ≤ tight e → Follow (reach e) ys → Rest e m ys (past i (write e)) k c vs → Reads (s.Expr m ∷ k) (write e ++ ys) i (attach e c, vs)

pub whole_by : (e : SyntaxTree) (zs : List Lexeme) (i : ℕ) (top : Symbol) (k : List Symbol) (vs : Vals (top ∷ k)) → ReadsExpr e → is_tail top ≡ false → IsLevel e → IsPlacedTree i e → Follow 0 zs → Reads (top ∷ k) zs (past i (write e)) vs → Reads (s.Expr 0 ∷ top ∷ k) (write e ++ zs) i (e, vs)
whole_by e zs i top k vs r q l p f h = r 0 zs i (top ∷ k) stop vs l p (omega arith) (follow_any (reach e) zs f) (whole (ends_open e) (tight e) zs (past i (write e)) top k vs q f h)

pub seal_passed : (b : Bool) (zs : List Lexeme) (j : ℕ) (k : List Symbol) (vs : Vals k) → read zs j true k ≡ Some vs → read zs j b (s.Seal ∷ k) ≡ Some (tt, vs)
seal_passed true [] j k vs h = rw h refl
seal_passed true (x ∷ xs) j k vs h = rw h refl
seal_passed false [] j k vs h = rw h refl
seal_passed false (x ∷ xs) j k vs h = rw h refl

pub before_seal : (b : Bool) (u : ℕ) (zs : List Lexeme) (j : ℕ) (k : List Symbol) (vs : Vals k) → Follow 0 zs → read zs j true k ≡ Some vs → RestBy b 0 u zs j (s.Seal ∷ k) stop (tt, vs)
before_seal true u zs j k vs f h = (refl, seal_passed true zs j k vs h)
before_seal false u zs j k vs f h = passed (s.Tail 0 u) stop (s.Seal ∷ k) zs j (tt, vs) refl refl (tail_stops 0 u zs (low_zero 0 zs f.ops)) (seal_passed false zs j k vs h)

pub comma_follow : (es : SyntaxTrees) (ys : List Lexeme) → Follow 0 ((write_tail es ++ (mark t.RParen ∷ [])) ++ ys)
comma_follow none ys = record { args = refl; dots = refl; ops = λ i. absurd (no_false i) }
comma_follow (more f fs) ys = record { args = refl; dots = refl; ops = λ i. absurd (no_false i) }

pub mark_follow : (x : Terminal) (zs : List Lexeme) → find (rows s.Args) x ≡ None → same t.Dot x ≡ false → is_infix x ≡ false → Follow 0 (mark x ∷ zs)
mark_follow x zs a b c = record { args = a; dots = b; ops = λ i. absurd (no_false (sym c ∙ i)) }

-- an operator comes after its left operand
pub op_follow : (n : ℕ) (o : OperatorToken) (zs : List Lexeme) → is_infix o.terminal ≡ true → need o.terminal ≤ n → Follow n (write_op o ∷ zs)
op_follow n o zs h l = record { args = op_args o.terminal h; dots = op_dots o.terminal h; ops = λ i. l }

pub joined_is : (a : At) (e : SyntaxTree) (o : OperatorToken) (f : SyntaxTree) (i : ℕ) → IsPlacedTree i (binary a e o f) → joined_trees e o f ≡ binary a e o f
joined_is a e o f i p = let g : first_token e ≡ a.first = first_placed e i p.3 ∙ sym p.0 in ap (λ v. binary v e o f) (ap (λ v. at_of v.0 v.1) (pair_is g (sym p.1)))
  where
    at_of : ℕ → ℕ → At
    at_of m n = record { first = m; main = n }

    pair_is : first_token e ≡ a.first → o.at ≡ a.main → ◌≡◌ {A = ℕ × ℕ} (first_token e, o.at) (a.first, a.main)
    pair_is g h = ap (λ v. (v, o.at)) g ∙ ap (λ v. (a.first, v)) h

pub op_is : (o : OperatorToken) (i : ℕ) → o.at ≡ i → op i o.terminal o.text ≡ o
op_is o i h = ap (λ v. op v o.terminal o.text) (sym h)

pub both_right : (a : List Lexeme) (x : Lexeme) (b ys : List Lexeme) → (a ++ (x ∷ b)) ++ ys ≡ a ++ (x ∷ (b ++ ys))
both_right a x b ys = append_assoc a (x ∷ b) ys

pub past_op : (a : List Lexeme) (x : Lexeme) (b : List Lexeme) (i : ℕ) → past i (a ++ (x ∷ b)) ≡ past (past i a + 1) b
past_op a x b i = past-append a (x ∷ b) i

pub cast_rest : (f : SyntaxForm) (cs : List Called) (ys : List Lexeme) (j : ℕ) (k : List Symbol) (vs : Vals k) → IsForm type_forms f → IsPlaced (j + 1) f → Reads (s.Dots ∷ k) ys (past (j + 1) (write_form f ++ (mark t.RParen ∷ []))) (cs, vs) → Reads (s.GroupRest ∷ k) (mark t.Colon ∷ ((write_form f ++ (mark t.RParen ∷ [])) ++ ys)) j (cast_to f cs, vs)
cast_rest f cs ys j k vs l p h = rw (append_assoc (write_form f) (mark t.RParen ∷ []) ys, reads_type f (mark t.RParen ∷ ys) (j + 1) (s.Take t.RParen ∷ s.Dots ∷ k) (name (past (j + 1) (write_form f)) [], (cs, vs)) l p refl (close_read (rw past-append at h))) refl
  where
    close_read : Reads (s.Dots ∷ k) ys (past (j + 1) (write_form f) + 1) (cs, vs) → Reads (s.Take t.RParen ∷ s.Dots ∷ k) (mark t.RParen ∷ ys) (past (j + 1) (write_form f)) (name (past (j + 1) (write_form f)) [], (cs, vs))
    close_read h = rw h refl

pub reads_mark : (x : Terminal) (zs : List Lexeme) (j : ℕ) (k : List Symbol) (vs : Vals k) → Reads k zs (j + 1) vs → Reads (s.Take x ∷ k) (mark x ∷ zs) j (name j [], vs)
reads_mark x zs j k vs h = reads_by (s.Take x) (mark x) (row (s.Take x) x [] (λ i w vs. name i w)) zs j k vs (ap (λ b. cond b (Some (row (s.Take x) x [] (λ i w vs. name i w))) None) (same_refl (terminal_number x))) h

-- after a tree of a list, a mark that no expression goes on with
pub list_follow : (es : SyntaxTrees) (x : Terminal) (zs : List Lexeme) → find (rows s.Args) x ≡ None → same t.Dot x ≡ false → is_infix x ≡ false → Follow 0 (write_tail es ++ (mark x ∷ zs))
list_follow none x zs a b c = mark_follow x zs a b c
list_follow (more e es) x zs a b c = record { args = refl; dots = refl; ops = λ i. absurd (no_false i) }

pub others_follow : (bs : Branches) (zs : List Lexeme) → Follow 0 ((write_others bs ++ (mark t.EndWord ∷ [])) ++ zs)
others_follow no_branch zs = record { args = refl; dots = refl; ops = λ i. absurd (no_false i) }
others_follow (branch ps e bs) zs = record { args = refl; dots = refl; ops = λ i. absurd (no_false i) }

pub terms_follow : (es : SyntaxTrees) (bars : List Bool) (zs : List Lexeme) → Follow 0 ((terms_tail es bars ++ (mark t.RBrack ∷ [])) ++ zs)
terms_follow none bars zs = record { args = refl; dots = refl; ops = λ i. absurd (no_false i) }
terms_follow (more e es) [] zs = record { args = refl; dots = refl; ops = λ i. absurd (no_false i) }
terms_follow (more e es) (true ∷ bs) zs = record { args = refl; dots = refl; ops = λ i. absurd (no_false i) }
terms_follow (more e es) (false ∷ bs) zs = record { args = refl; dots = refl; ops = λ i. absurd (no_false i) }

-- and after a field of a record
pub fields_follow : (cs : List Called) (es : SyntaxTrees) (semi : Bool) (zs : List Lexeme) → Follow 0 ((tree_fields_tail cs es ++ close_fields semi) ++ zs)
fields_follow [] none true zs = record { args = refl; dots = refl; ops = λ i. absurd (no_false i) }
fields_follow [] none false zs = record { args = refl; dots = refl; ops = λ i. absurd (no_false i) }
fields_follow [] (more e es) semi zs = record { args = refl; dots = refl; ops = λ i. absurd (no_false i) }
fields_follow (c ∷ cs) none true zs = record { args = refl; dots = refl; ops = λ i. absurd (no_false i) }
fields_follow (c ∷ cs) none false zs = record { args = refl; dots = refl; ops = λ i. absurd (no_false i) }
fields_follow (c ∷ cs) (more e es) semi zs = record { args = refl; dots = refl; ops = λ i. absurd (no_false i) }
