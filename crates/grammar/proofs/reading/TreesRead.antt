-- The tokens of a term are read as it.
use Rattle.grammar.proofs.reading.Common.{◌≡◌, ℕ, ◌+◌, ◌≤◌, Bool, true, false, nat_le, cond, List, [], ◌∷◌, ◌++◌, Some, refl, sym, ap, ◌∙◌, subst, append_assoc, append-nil, arith, Symbol, operators, prec, need, right, Lexeme, at, lx, mark, name, called, lower, scoped, write_own, Own, Called, IsLowerName, IsPlainTerm, access, accessed, fielded_tree, tree_fields, tree_fields_tail, record_tree, HasSomeTree, AreNamedTrees, PlacedFieldTrees, write_list, ⊤, form_tail, more_forms, no_forms, past, write_called, write_form, AreAtoms, AreBranches, AreLevel, AreTerms, Branches, HasBranch, IsAtom, IsLevel, IsPlacedTree, IsTrigger, PlacedBranches, PlacedCommas, PlacedTrees, PlacedTrigger, SyntaxTree, SyntaxTrees, SyntaxTrigger, alternative_list, apply, bar_before, binary, binder_tail, binding, binds, branch, cases, cast, choice, ends_open, falsity, group, literal, more, name_row, negation, no_branch, none, op, prefixed, quantified, quantifier, terms_tail, tight, triggered, truth, type_part, untriggered, write, write_branches, write_op, write_others, write_row, write_tail, write_trigger, Chain, attach, binder_with, cast_to, closes_group, link, stop, Vals, row, link_row, prefix_row, read, and_both, infix_among}
use Rattle.tokens_why.specs.declared.terminal.Terminal.TheVariants as t
use Rattle.grammar.specs.declared.symbols.Symbol.TheVariants as s
use Rattle.grammar.proofs.reading.Reading.{Reads, Stops, extended, passed, past-append}
use Rattle.grammar.proofs.reading.FormsRead.{close_fields, field_past, field_tokens, reads_lower, reads_pat, regroup, tail_past}
use Rattle.grammar.proofs.reading.Operators.{Follow, NoDot, OpsBelow, Rest, RestBy, le_true, low_not, low_prefix, low_right, reach, reads_by, rest_within, tail_found}
use Rattle.grammar.proofs.reading.TermRowsRead.{other_tree_field, reads_record, Closed, args_extend, atom_headed, dots_stop, name_dots, reads_dots, reads_inner, reads_match, reads_nothing, TopReads, expr_if, expr_let, expr_not, expr_prefix, expr_quantifier, prim_headed}
use Rattle.grammar.proofs.reading.Operands.{fields_follow, as_prim, before_seal, both_right, cast_rest, comma_follow, follow_any, follow_within, joined_is, list_follow, mark_follow, op_follow, op_is, others_follow, past_op, reads_mark, row_dots, terms_follow, whole_by, within_left, within_right}
use Rattle.grammar.proofs.reading.TermsRight.{AreDots, write_dots}
use Rattle.grammar.proofs.reading.Grouping.{branch_past, branch_tokens, let_past, let_tokens, match_tokens, quantifier_past, quantifier_tokens, trigger_stop}
use Rattle.grammar.proofs.reading.ArmsRead.{binder_after, binders_stop, reads_arms, reads_binders, reads_branch, reads_letpats, tail_stops_pat}

-- a field after a term, and fields after it
access_tokens : (xs : List Lexeme) (c : Called) (cs : List Called) (ys : List Lexeme) → (xs ++ (mark t.Dot ∷ write_called c)) ++ (write_dots cs ++ ys) ≡ xs ++ (write_dots (c ∷ cs) ++ ys)
access_tokens xs c cs ys = both_right xs (mark t.Dot) (write_called c) (write_dots cs ++ ys) ∙ ap (λ v. xs ++ (mark t.Dot ∷ v)) (sym (append_assoc (write_called c) (write_dots cs) ys))

no_dots : (ys : List Lexeme) (j : ℕ) (k : List Symbol) (vs : Vals k) → NoDot ys → Reads k ys j vs → Reads (s.Dots ∷ k) ys j ([], vs)
no_dots ys j k vs n h = passed s.Dots [] k ys j vs refl refl (dots_stop ys n) h

-- trees in parentheses or in a `match`, of which there is a first one
abbrev MembersRead : SyntaxTrees → List Called → List Lexeme → ℕ → (k : List Symbol) → Vals k → Type 0
MembersRead none cs zs i k vs = ⊤
MembersRead (more e es) cs zs i k vs = Reads (s.Expr 0 ∷ s.GroupRest ∷ k) (((write e ++ write_tail es) ++ (mark t.RParen ∷ [])) ++ zs) i (e, (closes_group es cs, vs))

abbrev MatchRead : SyntaxTrees → Bool → Branches → List Called → List Lexeme → ℕ → (k : List Symbol) → Vals k → Type 0
MatchRead none bar bs cs zs i k vs = ⊤
MatchRead (more e es) bar bs cs zs i k vs = Reads (s.Expr 0 ∷ s.Scrutinees ∷ s.Dots ∷ k) (((write e ++ write_tail es) ++ (mark t.WithWord ∷ (bar_before bar ++ (write_branches bs ++ (mark t.EndWord ∷ []))))) ++ zs) i (e, (record { others = es; bar = bar; branches = bs }, (cs, vs)))

-- where the branches of a `match` end
match_after : (a b c d : List Lexeme) (i : ℕ) → past i ((a ++ b) ++ (mark t.WithWord ∷ (c ++ (d ++ (mark t.EndWord ∷ []))))) ≡ past (past (past i (a ++ b) + 1) c) (d ++ (mark t.EndWord ∷ []))
match_after a b c d i = past_op (a ++ b) (mark t.WithWord) (c ++ (d ++ (mark t.EndWord ∷ []))) i ∙ past-append c (d ++ (mark t.EndWord ∷ [])) (past i (a ++ b) + 1)

mutual
  pub reads_expr : (e : SyntaxTree) (m : ℕ) (ys : List Lexeme) (i : ℕ) (k : List Symbol) (c : Chain) (vs : Vals k) → IsLevel e → IsPlacedTree i e → m ≤ tight e → Follow (reach e) ys → Rest e m ys (past i (write e)) k c vs → Reads (s.Expr m ∷ k) (write e ++ ys) i (attach e c, vs)
  reads_expr (apply a d ts) m ys i k c vs l p u n h = rw (append_assoc (write_called d) (write_row ts) ys, p.0, p.1) (as_prim m (write_called d ++ (write_row ts ++ ys)) i k (apply (at i) (called i d.scopes d.own) ts) c vs
      (prim_headed d.scopes d.own ts (write_row ts ++ ys) i (s.Tail m 9 ∷ k) (c, vs) l.0 (row_dots ts ys l.1 n.dots) (reads_args ts ys (past i (write_called d)) (s.Tail m 9 ∷ k) (c, vs) l.1 p.2 n.args n.dots (rw past-append at h))))
  reads_expr (literal a w) m ys i k c vs l p u n h = as_prim m (lx t.Int w ∷ ys) i k (literal a w) c vs (rw (h, p) refl)
  reads_expr (truth a) m ys i k c vs l p u n h = as_prim m (mark t.TrueWord ∷ ys) i k (truth a) c vs (rw (h, p) refl)
  reads_expr (falsity a) m ys i k c vs l p u n h = as_prim m (mark t.FalseWord ∷ ys) i k (falsity a) c vs (rw (h, p) refl)
  reads_expr (group a none) m ys i k c vs l p u n h = as_prim m (mark t.LParen ∷ mark t.RParen ∷ ys) i k (group a none) c vs (rw p.0 (reads_nothing true [] ys i (s.Tail m 9 ∷ k) (c, vs) (no_dots ys (i + 1 + 1) (s.Tail m 9 ∷ k) (c, vs) n.dots h)))
  reads_expr (group a (more e es)) m ys i k c vs l p u n h = as_prim m (mark t.LParen ∷ (((write e ++ write_tail es) ++ (mark t.RParen ∷ [])) ++ ys)) i k (group a (more e es)) c vs
      (rw p.0 (reads_inner true (((write e ++ write_tail es) ++ (mark t.RParen ∷ [])) ++ ys) i (s.Tail m 9 ∷ k) e (closes_group es []) (c, vs) (reads_members (more e es) [] ys (i + 1) (s.Tail m 9 ∷ k) (c, vs) l p.1 (no_dots ys (past (i + 1) ((write e ++ write_tail es) ++ (mark t.RParen ∷ []))) (s.Tail m 9 ∷ k) (c, vs) n.dots h))))
  reads_expr (cast a e f) m ys i k c vs l p u n h = as_prim m (mark t.LParen ∷ ((write e ++ (mark t.Colon ∷ (write_form f ++ (mark t.RParen ∷ [])))) ++ ys)) i k (cast a e f) c vs
      (rw (p.0, both_right (write e) (mark t.Colon) (write_form f ++ (mark t.RParen ∷ [])) ys) (reads_inner true (write e ++ (mark t.Colon ∷ ((write_form f ++ (mark t.RParen ∷ [])) ++ ys))) i (s.Tail m 9 ∷ k) e (cast_to f []) (c, vs) (whole_by e (mark t.Colon ∷ ((write_form f ++ (mark t.RParen ∷ [])) ++ ys)) (i + 1) s.GroupRest (s.Tail m 9 ∷ k) (cast_to f [], (c, vs)) (λ m zs j q c us. reads_expr e m zs j q c us) refl l.0 p.1 (mark_follow t.Colon ((write_form f ++ (mark t.RParen ∷ [])) ++ ys) refl refl refl) (cast_rest f [] ys (past (i + 1) (write e)) (s.Tail m 9 ∷ k) (c, vs) l.1 p.2 (no_dots ys (past (past (i + 1) (write e) + 1) (write_form f ++ (mark t.RParen ∷ []))) (s.Tail m 9 ∷ k) (c, vs) n.dots (rw past_op at h))))))
  reads_expr (access a e d) m ys i k c vs l p u n h = as_prim m ((write e ++ (mark t.Dot ∷ write_called d)) ++ ys) i k (access a e d) c vs
      (rw (p.0, access_tokens (write e) d [] ys) (reads_plain true e (d ∷ []) ys i (s.Tail m 9 ∷ k) (c, vs) l.0 l.1 p.1 (p.2, l.2, tt) n.args n.dots (rw (append-nil (write_called d)) (rw past_op at h))))
  reads_expr (fielded_tree a ns ts semi) m ys i k c vs l p u n h = as_prim m (write (fielded_tree a ns ts semi) ++ ys) i k (fielded_tree a ns ts semi) c vs
      (rw p.0 (reads_braced true ns ts semi [] ys i (s.Tail m 9 ∷ k) (c, vs) l.0 l.1 l.2 p.1 (no_dots ys (past (i + 1) (tree_fields ns ts ++ close_fields semi)) (s.Tail m 9 ∷ k) (c, vs) n.dots h)))
  reads_expr (prefixed a o e) m ys i k c vs l p u n h = reads_by (s.Expr m) (write_op o) (prefix_row m o.terminal) (write e ++ ys) i k (e, (c, vs)) (expr_prefix m (nat_le m 3) o.terminal l.0)
      (reads_expr e 8 ys (i + 1) (s.Tail m 8 ∷ k) stop (c, vs) l.3 p.2 l.2 (follow_within (ends_open e) 8 (tight e) ys l.2 n) (rest_within (ends_open e) m 8 8 (tight e) ys (past (i + 1) (write e)) k c vs (λ q. low_prefix ys) h))
      ∙ ap (λ v. Some (attach (prefixed v (op i o.terminal o.text) e) c, vs)) (sym p.0) ∙ ap (λ v. Some (attach (prefixed a v e) c, vs)) (op_is o i p.1)
  reads_expr (negation a e) m ys i k c vs l p u n h = reads_by (s.Expr m) (mark t.NotWord) (row (s.Expr m) t.NotWord (s.Expr 3 ∷ s.Tail m 3 ∷ []) (λ i w vs. attach (negation (at i) vs.0) vs.1.0)) (write e ++ ys) i k (e, (c, vs)) (expr_not m (nat_le m 3) (le_true m 3 u))
      (reads_expr e 3 ys (i + 1) (s.Tail m 3 ∷ k) stop (c, vs) l.1 p.1 l.0 (follow_within (ends_open e) 3 (tight e) ys l.0 n) (rest_within (ends_open e) m 3 3 (tight e) ys (past (i + 1) (write e)) k c vs (λ q. low_not ys (subst (λ b. OpsBelow (cond b 0 3) ys) q n.ops)) h))
      ∙ ap (λ v. Some (attach (negation v e) c, vs)) (sym p.0)
  reads_expr (binary a e o f) m ys i k c vs l p u n h = rw (both_right (write e) (write_op o) (write f) ys, sym (joined_is a e o f i p))
      (reads_expr e m (write_op o ∷ (write f ++ ys)) i k (link o f c) vs l.5 p.3 (within_left m o e u l.0 l.3) (subst (λ b. Follow (cond b 0 (tight e)) (write_op o ∷ (write f ++ ys))) (sym l.2) (op_follow (tight e) o (write f ++ ys) l.0 l.3))
      (subst (λ b. RestBy b m (tight e) (write_op o ∷ (write f ++ ys)) (past i (write e)) k (link o f c) vs) (sym l.2)
      (reads_by (s.Tail m (tight e)) (write_op o) (link_row m (tight e) o.terminal) (write f ++ ys) (past i (write e)) k (f, (c, vs)) (tail_found m (tight e) operators o.terminal (infix_among o.terminal l.0) (and_both (nat_le m (prec o.terminal)) (nat_le (need o.terminal) (tight e)) (le_true m (prec o.terminal) u) (le_true (need o.terminal) (tight e) l.3)))
      (reads_expr f (right o.terminal) ys (past i (write e) + 1) (s.Tail m (prec o.terminal) ∷ k) stop (c, vs) l.6 p.4 l.4 (follow_within (ends_open f) (prec o.terminal) (tight f) ys (within_right o f l.0 l.4) n)
      (rest_within (ends_open f) m (right o.terminal) (prec o.terminal) (tight f) ys (past (past i (write e) + 1) (write f)) k c vs (λ q. low_right o.terminal ys l.0 (subst (λ b. OpsBelow (cond b 0 (prec o.terminal)) ys) q n.ops)) (rw past_op at h)))
      ∙ ap (λ v. Some (link v f c, vs)) (op_is o (past i (write e)) p.2))))
  reads_expr (choice a d e f) m ys i k c vs l p u n h = rw (both_right (write d) (mark t.ThenWord) (write e ++ (mark t.ElseWord ∷ write f)) ys, both_right (write e) (mark t.ElseWord) (write f) ys)
      (reads_by (s.Expr m) (mark t.IfWord) (row (s.Expr m) t.IfWord (s.Expr 0 ∷ s.Take t.ThenWord ∷ s.Expr 0 ∷ s.Take t.ElseWord ∷ s.Expr 0 ∷ s.Seal ∷ []) (λ i w vs. choice (at i) vs.0 vs.1.1.0 vs.1.1.1.1.0)) (write d ++ (mark t.ThenWord ∷ (write e ++ (mark t.ElseWord ∷ (write f ++ ys))))) i k (d, (name (past (i + 1) (write d)) [], (e, (name (past (past (i + 1) (write d) + 1) (write e)) [], (f, (tt, vs)))))) (expr_if m (nat_le m 3))
      (whole_by d (mark t.ThenWord ∷ (write e ++ (mark t.ElseWord ∷ (write f ++ ys)))) (i + 1) (s.Take t.ThenWord) (s.Expr 0 ∷ s.Take t.ElseWord ∷ s.Expr 0 ∷ s.Seal ∷ k) (name (past (i + 1) (write d)) [], (e, (name (past (past (i + 1) (write d) + 1) (write e)) [], (f, (tt, vs))))) (λ m zs j q c us. reads_expr d m zs j q c us) refl l.0 p.1 (mark_follow t.ThenWord (write e ++ (mark t.ElseWord ∷ (write f ++ ys))) refl refl refl)
      (reads_mark t.ThenWord (write e ++ (mark t.ElseWord ∷ (write f ++ ys))) (past (i + 1) (write d)) (s.Expr 0 ∷ s.Take t.ElseWord ∷ s.Expr 0 ∷ s.Seal ∷ k) (e, (name (past (past (i + 1) (write d) + 1) (write e)) [], (f, (tt, vs))))
      (whole_by e (mark t.ElseWord ∷ (write f ++ ys)) (past (i + 1) (write d) + 1) (s.Take t.ElseWord) (s.Expr 0 ∷ s.Seal ∷ k) (name (past (past (i + 1) (write d) + 1) (write e)) [], (f, (tt, vs))) (λ m zs j q c us. reads_expr e m zs j q c us) refl l.1 p.2 (mark_follow t.ElseWord (write f ++ ys) refl refl refl)
      (reads_mark t.ElseWord (write f ++ ys) (past (past (i + 1) (write d) + 1) (write e)) (s.Expr 0 ∷ s.Seal ∷ k) (f, (tt, vs))
      (reads_expr f 0 ys (past (past (i + 1) (write d) + 1) (write e) + 1) (s.Seal ∷ k) stop (tt, vs) l.2 p.3 (omega arith) (follow_any (reach f) ys n) (before_seal (ends_open f) (tight f) ys (past (past (past (i + 1) (write d) + 1) (write e) + 1) (write f)) k vs n (rw (past_op, past_op) at h.1)))))))
      ∙ ap (λ v. Some (choice v d e f, vs)) (sym p.0) ∙ ap (λ v. Some (attach (choice a d e f) v, vs)) (sym h.0))
  reads_expr (cases a none bar bs) m ys i k c vs l p u n h = elim l.0 [ ]
  reads_expr (cases a (more e es) bar bs) m ys i k c vs l p u n h = as_prim m (write (cases a (more e es) bar bs) ++ ys) i k (cases a (more e es) bar bs) c vs
      (rw p.0 (reads_match true e (record { others = es; bar = bar; branches = bs }) [] (((write e ++ write_tail es) ++ (mark t.WithWord ∷ (bar_before bar ++ (write_branches bs ++ (mark t.EndWord ∷ []))))) ++ ys) i (s.Tail m 9 ∷ k) (c, vs) (reads_matched (more e es) bar bs [] ys (i + 1) (s.Tail m 9 ∷ k) (c, vs) l.1 p.1 (reads_branches bs bar ys (past (i + 1) (write e ++ write_tail es) + 1) (s.Dots ∷ s.Tail m 9 ∷ k) ([], (c, vs)) l.2 l.3 p.2 (rw match_after at (no_dots ys (past (i + 1) ((write e ++ write_tail es) ++ (mark t.WithWord ∷ (bar_before bar ++ (write_branches bs ++ (mark t.EndWord ∷ [])))))) (s.Tail m 9 ∷ k) (c, vs) n.dots h))))))
  reads_expr (binding a no_forms e f) m ys i k c vs l p u n h = elim l.0 [ ]
  reads_expr (binding a (more_forms g gs) e f) m ys i k c vs l p u n h = rw (let_tokens (write_form g) (form_tail gs) (write e) (write f) ys)
      (reads_by (s.Expr m) (mark t.LetWord) (row (s.Expr m) t.LetWord (s.Pat ∷ s.Letpats ∷ []) (λ i w vs. binding (at i) (more_forms vs.0 vs.1.0.patterns) vs.1.0.value vs.1.0.body)) (write_form g ++ (form_tail gs ++ (mark t.Equal ∷ (write e ++ (mark t.InWord ∷ (write f ++ ys)))))) i k (g, (record { patterns = gs; value = e; body = f }, vs)) (expr_let m (nat_le m 3))
      (reads_pat g (form_tail gs ++ (mark t.Equal ∷ (write e ++ (mark t.InWord ∷ (write f ++ ys))))) (i + 1) (s.Letpats ∷ k) (record { patterns = gs; value = e; body = f }, vs) l.1.0 p.1.0 (tail_stops_pat gs (mark t.Equal ∷ (write e ++ (mark t.InWord ∷ (write f ++ ys)))) (record { quids = refl; patoms = refl; as_part = refl }))
      (reads_letpats gs (write e ++ (mark t.InWord ∷ (write f ++ ys))) (past (i + 1) (write_form g)) k e f vs l.1.1 p.1.1
      (rw (whole_by e (mark t.InWord ∷ (write f ++ ys)) (past (past (i + 1) (write_form g)) (form_tail gs) + 1) (s.Take t.InWord) (s.Expr 0 ∷ s.Seal ∷ k) (name (past (past (past (i + 1) (write_form g)) (form_tail gs) + 1) (write e)) [], (f, (tt, vs))) (λ m zs j q c us. reads_expr e m zs j q c us) refl l.2 (rw past-append at p.2) (mark_follow t.InWord (write f ++ ys) refl refl refl)
      (reads_mark t.InWord (write f ++ ys) (past (past (past (i + 1) (write_form g)) (form_tail gs) + 1) (write e)) (s.Expr 0 ∷ s.Seal ∷ k) (f, (tt, vs))
      (reads_expr f 0 ys (past (past (past (i + 1) (write_form g)) (form_tail gs) + 1) (write e) + 1) (s.Seal ∷ k) stop (tt, vs) l.3 (rw past-append at p.3) (omega arith) (follow_any (reach f) ys n) (before_seal (ends_open f) (tight f) ys (past (past (past (past (i + 1) (write_form g)) (form_tail gs) + 1) (write e) + 1) (write f)) k vs n (rw (let_past (write_form g) (form_tail gs) (write e) (write f) (i + 1)) at h.1))))) refl))))
      ∙ ap (λ v. Some (binding v (more_forms g gs) e f, vs)) (sym p.0) ∙ ap (λ v. Some (attach (binding a (more_forms g gs) e f) v, vs)) (sym h.0)
  reads_expr (quantified a all [] g e) m ys i k c vs l p u n h = elim l.0 [ ]
  reads_expr (quantified a all (binds [] ty ∷ bs) g e) m ys i k c vs l p u n h = elim l.1.0 [ ]
  reads_expr (quantified a all (binds (x ∷ ns) ty ∷ bs) g e) m ys i k c vs l p u n h = rw (quantifier_tokens (name_row ns) (type_part ty) (binder_tail bs) (write_trigger g) (write e) ys)
      (reads_by (s.Expr m) (mark (quantifier all)) (row (s.Expr m) (quantifier all) (s.Take t.Lident ∷ s.Binder ∷ []) (λ i w vs. quantified (at i) all (binder_with vs.0 vs.1.0 ∷ vs.1.0.bound.others) vs.1.0.bound.trigger vs.1.0.bound.body)) (lx t.Lident x.text ∷ (name_row ns ++ (type_part ty ++ (binder_tail bs ++ (write_trigger g ++ (mark t.Dot ∷ (write e ++ ys))))))) i k (x, (record { names = ns; of_type = ty; bound = record { others = bs; trigger = g; body = e } }, vs)) (expr_quantifier m (nat_le m 3) all)
      (binder_after x ns ty (record { others = bs; trigger = g; body = e }) (binder_tail bs ++ (write_trigger g ++ (mark t.Dot ∷ (write e ++ ys)))) (i + 1) k vs l.1.1 p.1.0.0 p.1.0.1 (binders_stop bs (write_trigger g ++ (mark t.Dot ∷ (write e ++ ys))) (trigger_stop g (write e ++ ys)))
      (reads_binders bs g e (write_trigger g ++ (mark t.Dot ∷ (write e ++ ys))) (past (past (i + 1 + 1) (name_row ns)) (type_part ty)) k vs l.1.2 (rw past-append at p.1.1) (trigger_stop g (write e ++ ys))
      (reads_trigger g e ys (past (past (past (i + 1 + 1) (name_row ns)) (type_part ty)) (binder_tail bs)) k vs l.2 (rw (past-append, past-append) at p.2)
      (reads_expr e 0 ys (past (past (past (past (i + 1 + 1) (name_row ns)) (type_part ty)) (binder_tail bs)) (write_trigger g) + 1) (s.Seal ∷ k) stop (tt, vs) l.3 (rw (past-append, past-append) at p.3) (omega arith) (follow_any (reach e) ys n) (before_seal (ends_open e) (tight e) ys (past (past (past (past (past (i + 1 + 1) (name_row ns)) (type_part ty)) (binder_tail bs)) (write_trigger g) + 1) (write e)) k vs n (rw (quantifier_past (name_row ns) (type_part ty) (binder_tail bs) (write_trigger g) (write e) (i + 1 + 1)) at h.1)))))))
      ∙ ap (λ v. Some (quantified v all (binds (x ∷ ns) ty ∷ bs) g e, vs)) (sym p.0) ∙ ap (λ v. Some (attach (quantified a all (binds (x ∷ ns) ty ∷ bs) g e) v, vs)) (sym h.0)

  -- after the first scrutinee
  reads_scrutinees : (es : SyntaxTrees) (zs : List Lexeme) (i : ℕ) (k : List Symbol) (bar : Bool) (bs : Branches) (vs : Vals k) → AreLevel es → PlacedCommas (i + 1) es → Reads (s.Branch ∷ k) zs (past i (write_tail es) + 1) (record { bar = bar; branches = bs }, vs) → Reads (s.Scrutinees ∷ k) (write_tail es ++ (mark t.WithWord ∷ zs)) i (record { others = es; bar = bar; branches = bs }, vs)
  reads_scrutinees none zs i k bar bs vs l p h = rw h refl
  reads_scrutinees (more e es) zs i k bar bs vs l p h = rw (append_assoc (write e) (write_tail es) (mark t.WithWord ∷ zs), whole_by e (write_tail es ++ (mark t.WithWord ∷ zs)) (i + 1) s.Scrutinees k (record { others = es; bar = bar; branches = bs }, vs) (λ m zs j q c us. reads_expr e m zs j q c us) refl l.0 p.0 (list_follow es t.WithWord zs refl refl refl) (reads_scrutinees es zs (past (i + 1) (write e)) k bar bs vs l.1 p.1 (rw past-append at h))) refl

  -- after `with`
  reads_branches : (bs : Branches) (bar : Bool) (ys : List Lexeme) (i : ℕ) (k : List Symbol) (vs : Vals k) → HasBranch bs → AreBranches bs → PlacedBranches (past i (bar_before bar)) bs → Reads k ys (past (past i (bar_before bar)) (write_branches bs ++ (mark t.EndWord ∷ []))) vs → Reads (s.Branch ∷ k) (bar_before bar ++ ((write_branches bs ++ (mark t.EndWord ∷ [])) ++ ys)) i (record { bar = bar; branches = bs }, vs)
  reads_branches no_branch bar ys i k vs q l p h = elim q [ ]
  reads_branches (branch [] e bs) bar ys i k vs q l p h = elim l.0 [ ]
  reads_branches (branch (no_forms ∷ pss) e bs) bar ys i k vs q l p h = elim l.1.0 [ ]
  reads_branches (branch (more_forms f fs ∷ pss) e bs) bar ys i k vs q l p h = reads_branch bar f fs pss ((write_branches (branch (more_forms f fs ∷ pss) e bs) ++ (mark t.EndWord ∷ [])) ++ ys) i k e bs vs
      (rw (branch_tokens (alternative_list (more_forms f fs ∷ pss)) (write e) (write_others bs) (mark t.EndWord ∷ []) ys) (reads_arms f fs pss (write e ++ ((write_others bs ++ (mark t.EndWord ∷ [])) ++ ys)) (past i (bar_before bar)) k e bs vs l.1 p.0
      (rw (whole_by e ((write_others bs ++ (mark t.EndWord ∷ [])) ++ ys) (past (past i (bar_before bar)) (alternative_list (more_forms f fs ∷ pss)) + 1) s.Branches k (bs, vs) (λ m zs j q c us. reads_expr e m zs j q c us) refl l.2 p.1 (others_follow bs ys) (reads_others bs ys (past (past (past i (bar_before bar)) (alternative_list (more_forms f fs ∷ pss)) + 1) (write e)) k vs l.3 p.2 (rw (branch_past (alternative_list (more_forms f fs ∷ pss)) (write e) (write_others bs) (mark t.EndWord ∷ []) (past i (bar_before bar))) at h))) refl)))

  -- after a branch
  reads_others : (bs : Branches) (ys : List Lexeme) (i : ℕ) (k : List Symbol) (vs : Vals k) → AreBranches bs → PlacedBranches (i + 1) bs → Reads k ys (past i (write_others bs ++ (mark t.EndWord ∷ []))) vs → Reads (s.Branches ∷ k) ((write_others bs ++ (mark t.EndWord ∷ [])) ++ ys) i (bs, vs)
  reads_others no_branch ys i k vs l p h = rw h refl
  reads_others (branch [] e bs) ys i k vs l p h = elim l.0 [ ]
  reads_others (branch (no_forms ∷ pss) e bs) ys i k vs l p h = elim l.1.0 [ ]
  reads_others (branch (more_forms f fs ∷ pss) e bs) ys i k vs l p h =
      rw (
        branch_tokens (alternative_list (more_forms f fs ∷ pss)) (write e) (write_others bs) (mark t.EndWord ∷ []) ys,
        reads_arms f fs pss (write e ++ ((write_others bs ++ (mark t.EndWord ∷ [])) ++ ys)) (i + 1) k e bs vs l.1 p.0
            (rw (whole_by e ((write_others bs ++ (mark t.EndWord ∷ [])) ++ ys) (past (i + 1) (alternative_list (more_forms f fs ∷ pss)) + 1) s.Branches k (bs, vs) (λ m zs j q c us. reads_expr e m zs j q c us) refl l.2 p.1 (others_follow bs ys) (reads_others bs ys (past (past (i + 1) (alternative_list (more_forms f fs ∷ pss)) + 1) (write e)) k vs l.3 p.2 (rw (branch_past (alternative_list (more_forms f fs ∷ pss)) (write e) (write_others bs) (mark t.EndWord ∷ []) (i + 1)) at h))) refl),
      ) refl

  -- after binders
  reads_trigger : (g : SyntaxTrigger) (e : SyntaxTree) (ys : List Lexeme) (i : ℕ) (k : List Symbol) (vs : Vals k) → IsTrigger g → PlacedTrigger i g → Reads (s.Expr 0 ∷ s.Seal ∷ k) (write e ++ ys) (past i (write_trigger g) + 1) (e, (tt, vs)) → Reads (s.Binders ∷ k) (write_trigger g ++ (mark t.Dot ∷ (write e ++ ys))) i (record { others = []; trigger = g; body = e }, vs)
  reads_trigger untriggered e ys i k vs l p h = rw h refl
  reads_trigger (triggered none bars) e ys i k vs l p h = elim l [ ]
  reads_trigger (triggered (more d ds) bars) e ys i k vs l p h = rw (regroup (write d) (terms_tail ds bars) (mark t.RBrack ∷ []) (mark t.Dot ∷ (write e ++ ys)), whole_by d ((terms_tail ds bars ++ (mark t.RBrack ∷ [])) ++ (mark t.Dot ∷ (write e ++ ys))) (i + 1) s.Trigger k (record { terms = ds; bars = bars; body = e }, vs) (λ m zs j q c us. reads_expr d m zs j q c us) refl l.0 p.0 (terms_follow ds bars (mark t.Dot ∷ (write e ++ ys))) (reads_terms ds bars e ys (past (i + 1) (write d)) k vs l.1 p.1 (subst (λ n. Reads (s.Expr 0 ∷ s.Seal ∷ k) (write e ++ ys) (n + 1) (e, (tt, vs))) (tail_past (write d) (terms_tail ds bars) (mark t.RBrack ∷ []) i) h))) refl

  reads_terms : (ds : SyntaxTrees) (bars : List Bool) (e : SyntaxTree) (ys : List Lexeme) (i : ℕ) (k : List Symbol) (vs : Vals k) → AreTerms ds bars → PlacedCommas (i + 1) ds → Reads (s.Expr 0 ∷ s.Seal ∷ k) (write e ++ ys) (past i (terms_tail ds bars ++ (mark t.RBrack ∷ [])) + 1) (e, (tt, vs)) → Reads (s.Trigger ∷ k) ((terms_tail ds bars ++ (mark t.RBrack ∷ [])) ++ (mark t.Dot ∷ (write e ++ ys))) i (record { terms = ds; bars = bars; body = e }, vs)
  reads_terms none [] e ys i k vs l p h = rw h refl
  reads_terms none (b ∷ bs) e ys i k vs l p h = elim l [ ]
  reads_terms (more d ds) [] e ys i k vs l p h = elim l [ ]
  reads_terms (more d ds) (true ∷ bs) e ys i k vs l p h = rw (regroup (write d) (terms_tail ds bs) (mark t.RBrack ∷ []) (mark t.Dot ∷ (write e ++ ys)), whole_by d ((terms_tail ds bs ++ (mark t.RBrack ∷ [])) ++ (mark t.Dot ∷ (write e ++ ys))) (i + 1) s.Trigger k (record { terms = ds; bars = bs; body = e }, vs) (λ m zs j q c us. reads_expr d m zs j q c us) refl l.0 p.0 (terms_follow ds bs (mark t.Dot ∷ (write e ++ ys))) (reads_terms ds bs e ys (past (i + 1) (write d)) k vs l.1 p.1 (subst (λ n. Reads (s.Expr 0 ∷ s.Seal ∷ k) (write e ++ ys) (n + 1) (e, (tt, vs))) (tail_past (write d) (terms_tail ds bs) (mark t.RBrack ∷ []) i) h))) refl
  reads_terms (more d ds) (false ∷ bs) e ys i k vs l p h = rw (regroup (write d) (terms_tail ds bs) (mark t.RBrack ∷ []) (mark t.Dot ∷ (write e ++ ys)), whole_by d ((terms_tail ds bs ++ (mark t.RBrack ∷ [])) ++ (mark t.Dot ∷ (write e ++ ys))) (i + 1) s.Trigger k (record { terms = ds; bars = bs; body = e }, vs) (λ m zs j q c us. reads_expr d m zs j q c us) refl l.0 p.0 (terms_follow ds bs (mark t.Dot ∷ (write e ++ ys))) (reads_terms ds bs e ys (past (i + 1) (write d)) k vs l.1 p.1 (subst (λ n. Reads (s.Expr 0 ∷ s.Seal ∷ k) (write e ++ ys) (n + 1) (e, (tt, vs))) (tail_past (write d) (terms_tail ds bs) (mark t.RBrack ∷ []) i) h))) refl

  reads_args : (ts : SyntaxTrees) (ys : List Lexeme) (i : ℕ) (k : List Symbol) (vs : Vals k) → AreAtoms ts → PlacedTrees i ts → Stops s.Args ys → NoDot ys → Reads k ys (past i (write_row ts)) vs → Reads (s.Args ∷ k) (write_row ts ++ ys) i (ts, vs)
  reads_args none ys i k vs l p n o h = passed s.Args none k ys i vs refl refl n h
  reads_args (more e es) ys i k vs l p n o h = rw append_assoc (extended s.Args s.Atom (s.Args ∷ []) (λ v vs. more v vs.0) [] args_extend (write e ++ (write_row es ++ ys)) i k e (es, vs)
      (reads_atom e (write_row es ++ ys) i (s.Args ∷ k) (es, vs) l.0 l.1 p.0 (row_dots es ys l.2 o) (reads_args es ys (past i (write e)) k vs l.2 p.1 n o (rw past-append at h))))

  reads_atom : (e : SyntaxTree) (ys : List Lexeme) (i : ℕ) (k : List Symbol) (vs : Vals k) → IsAtom e → IsLevel e → IsPlacedTree i e → NoDot ys → Reads k ys (past i (write e)) vs → Reads (s.Atom ∷ k) (write e ++ ys) i (e, vs)
  reads_atom (apply a d none) ys i k vs q l p n h = rw (append-nil (write_called d), p.0, p.1) (atom_headed d.scopes d.own ys i k vs l.0 n (rw append-nil at h))
  reads_atom (apply a d (more f fs)) ys i k vs q l p n h = elim q [ ]
  reads_atom (literal a w) ys i k vs q l p n h = rw (h, p) refl
  reads_atom (truth a) ys i k vs q l p n h = rw (h, p) refl
  reads_atom (falsity a) ys i k vs q l p n h = rw (h, p) refl
  reads_atom (group a none) ys i k vs q l p n h = rw p.0 (reads_nothing false [] ys i k vs (no_dots ys (i + 1 + 1) k vs n h))
  reads_atom (group a (more e es)) ys i k vs q l p n h = rw p.0 (reads_inner false (((write e ++ write_tail es) ++ (mark t.RParen ∷ [])) ++ ys) i k e (closes_group es []) vs (reads_members (more e es) [] ys (i + 1) k vs l p.1 (no_dots ys (past (i + 1) ((write e ++ write_tail es) ++ (mark t.RParen ∷ []))) k vs n h)))
  reads_atom (cast a e f) ys i k vs q l p n h = rw (p.0, both_right (write e) (mark t.Colon) (write_form f ++ (mark t.RParen ∷ [])) ys) (reads_inner false (write e ++ (mark t.Colon ∷ ((write_form f ++ (mark t.RParen ∷ [])) ++ ys))) i k e (cast_to f []) vs (whole_by e (mark t.Colon ∷ ((write_form f ++ (mark t.RParen ∷ [])) ++ ys)) (i + 1) s.GroupRest k (cast_to f [], vs) (λ m zs j q c us. reads_expr e m zs j q c us) refl l.0 p.1 (mark_follow t.Colon ((write_form f ++ (mark t.RParen ∷ [])) ++ ys) refl refl refl) (cast_rest f [] ys (past (i + 1) (write e)) k vs l.1 p.2 (no_dots ys (past (past (i + 1) (write e) + 1) (write_form f ++ (mark t.RParen ∷ []))) k vs n (rw past_op at h)))))
  reads_atom (prefixed a o e) ys i k vs q l p n h = elim q [ ]
  reads_atom (negation a e) ys i k vs q l p n h = elim q [ ]
  reads_atom (binary a e o f) ys i k vs q l p n h = elim q [ ]
  reads_atom (choice a d e f) ys i k vs q l p n h = elim q [ ]
  reads_atom (cases a none bar bs) ys i k vs q l p n h = elim l.0 [ ]
  reads_atom (cases a (more e es) bar bs) ys i k vs q l p n h = rw p.0 (reads_match false e (record { others = es; bar = bar; branches = bs }) [] (((write e ++ write_tail es) ++ (mark t.WithWord ∷ (bar_before bar ++ (write_branches bs ++ (mark t.EndWord ∷ []))))) ++ ys) i k vs (reads_matched (more e es) bar bs [] ys (i + 1) k vs l.1 p.1 (reads_branches bs bar ys (past (i + 1) (write e ++ write_tail es) + 1) (s.Dots ∷ k) ([], vs) l.2 l.3 p.2 (rw match_after at (no_dots ys (past (i + 1) ((write e ++ write_tail es) ++ (mark t.WithWord ∷ (bar_before bar ++ (write_branches bs ++ (mark t.EndWord ∷ [])))))) k vs n h)))))
  reads_atom (access a e d) ys i k vs q l p n h = rw (p.0, access_tokens (write e) d [] ys) (reads_plain false e (d ∷ []) ys i k vs l.0 l.1 p.1 (p.2, l.2, tt) tt n (rw (append-nil (write_called d)) (rw past_op at h)))
  reads_atom (fielded_tree a ns ts semi) ys i k vs q l p n h = rw p.0 (reads_braced false ns ts semi [] ys i k vs l.0 l.1 l.2 p.1 (no_dots ys (past (i + 1) (tree_fields ns ts ++ close_fields semi)) k vs n h))
  reads_atom (binding a ps e f) ys i k vs q l p n h = elim q [ ]
  reads_atom (quantified a all bs g e) ys i k vs q l p n h = elim q [ ]

  -- a term with its fields
  reads_plain : (b : Bool) (e : SyntaxTree) (cs : List Called) (ys : List Lexeme) (i : ℕ) (k : List Symbol) (vs : Vals k) → IsPlainTerm e → IsLevel e → IsPlacedTree i e → AreDots (past i (write e)) cs → Closed b ys → NoDot ys → Reads k ys (past (past i (write e)) (write_dots cs)) vs → TopReads b k (write e ++ (write_dots cs ++ ys)) i (accessed i e cs) vs
  reads_plain b (apply a d none) cs ys i k vs q l p r m n h = by_own d.own refl q
    where
      by_own : (o : Own) → d.own ≡ o → IsLowerName o → TopReads b k (write (apply a d none) ++ (write_dots cs ++ ys)) i (accessed i (apply a d none) cs) vs
      by_own (lower w) e q = let is : called i d.scopes (lower w) ≡ d = ap (λ v. called v d.scopes (lower w)) (sym p.1) ∙ ap (λ v. called d.at d.scopes v) (sym e) in
          subst (λ v. TopReads b k (write (apply a v none) ++ (write_dots cs ++ ys)) i (accessed i (apply a v none) cs) vs) is
          (rw (p.0, append-nil (scoped d.scopes ++ (lx t.Lident w ∷ []))) (name_dots b d.scopes w cs ys i k vs (subst (λ v. AreDots (past i (scoped d.scopes ++ write_own v)) cs) e (rw append-nil at r)) m n (subst (λ v. Reads k ys (past (past i (scoped d.scopes ++ write_own v)) (write_dots cs)) vs) e (rw append-nil at h))))
      by_own _ e q = elim q [ ]
  reads_plain b (apply a d (more f fs)) cs ys i k vs q l p r m n h = elim q [ ]
  reads_plain b (group a none) cs ys i k vs q l p r m n h = rw p.0 (reads_nothing b cs (write_dots cs ++ ys) i k vs (reads_dots cs ys (i + 1 + 1) k vs r n h))
  reads_plain b (group a (more e es)) cs ys i k vs q l p r m n h = rw p.0 (reads_inner b (((write e ++ write_tail es) ++ (mark t.RParen ∷ [])) ++ (write_dots cs ++ ys)) i k e (closes_group es cs) vs (reads_members (more e es) cs (write_dots cs ++ ys) (i + 1) k vs l p.1 (reads_dots cs ys (past (i + 1) ((write e ++ write_tail es) ++ (mark t.RParen ∷ []))) k vs r n h)))
  reads_plain b (cast a e f) cs ys i k vs q l p r m n h = rw (p.0, both_right (write e) (mark t.Colon) (write_form f ++ (mark t.RParen ∷ [])) (write_dots cs ++ ys)) (reads_inner b (write e ++ (mark t.Colon ∷ ((write_form f ++ (mark t.RParen ∷ [])) ++ (write_dots cs ++ ys)))) i k e (cast_to f cs) vs (whole_by e (mark t.Colon ∷ ((write_form f ++ (mark t.RParen ∷ [])) ++ (write_dots cs ++ ys))) (i + 1) s.GroupRest k (cast_to f cs, vs) (λ m zs j q c us. reads_expr e m zs j q c us) refl l.0 p.1 (mark_follow t.Colon ((write_form f ++ (mark t.RParen ∷ [])) ++ (write_dots cs ++ ys)) refl refl refl) (cast_rest f cs (write_dots cs ++ ys) (past (i + 1) (write e)) k vs l.1 p.2 (reads_dots cs ys (past (past (i + 1) (write e) + 1) (write_form f ++ (mark t.RParen ∷ []))) k vs (rw past_op at r) n (rw past_op at h)))))
  reads_plain b (cases a none bar bs) cs ys i k vs q l p r m n h = elim l.0 [ ]
  reads_plain b (cases a (more e es) bar bs) cs ys i k vs q l p r m n h = rw p.0 (reads_match b e (record { others = es; bar = bar; branches = bs }) cs (((write e ++ write_tail es) ++ (mark t.WithWord ∷ (bar_before bar ++ (write_branches bs ++ (mark t.EndWord ∷ []))))) ++ (write_dots cs ++ ys)) i k vs (reads_matched (more e es) bar bs cs (write_dots cs ++ ys) (i + 1) k vs l.1 p.1 (reads_branches bs bar (write_dots cs ++ ys) (past (i + 1) (write e ++ write_tail es) + 1) (s.Dots ∷ k) (cs, vs) l.2 l.3 p.2 (rw match_after at (reads_dots cs ys (past (i + 1) ((write e ++ write_tail es) ++ (mark t.WithWord ∷ (bar_before bar ++ (write_branches bs ++ (mark t.EndWord ∷ [])))))) k vs r n h)))))
  reads_plain b (access a e d) cs ys i k vs q l p r m n h = rw (p.0, access_tokens (write e) d cs ys) (reads_plain b e (d ∷ cs) ys i k vs l.0 l.1 p.1 (p.2, l.2, rw past_op at r) m n (rw (past-append (write_called d) (write_dots cs) (past i (write e) + 1)) (rw past_op at h)))
  reads_plain b (fielded_tree a ns ts semi) cs ys i k vs q l p r m n h = rw p.0 (reads_braced b ns ts semi cs (write_dots cs ++ ys) i k vs l.0 l.1 l.2 p.1 (reads_dots cs ys (past (i + 1) (tree_fields ns ts ++ close_fields semi)) k vs r n h))
  reads_plain b _ cs ys i k vs q l p r m n h = elim q [ ]

  -- a record, with its fields and those of itself
  reads_braced : (b : Bool) (ns : List Called) (ts : SyntaxTrees) (semi : Bool) (cs : List Called) (zs : List Lexeme) (i : ℕ) (k : List Symbol) (vs : Vals k) → HasSomeTree ts → AreNamedTrees ns ts → AreLevel ts → PlacedFieldTrees (i + 1) ns ts → Reads (s.Dots ∷ k) zs (past (i + 1) (tree_fields ns ts ++ close_fields semi)) (cs, vs) → TopReads b k (mark t.LBrace ∷ ((tree_fields ns ts ++ close_fields semi) ++ zs)) i (accessed i (fielded_tree (at i) ns ts semi) cs) vs
  reads_braced b ns none semi cs zs i k vs q l m p h = elim q [ ]
  reads_braced b [] (more e es) semi cs zs i k vs q l m p h = elim l [ ]
  reads_braced b (c ∷ ns) (more e es) semi cs zs i k vs q l m p h =
      let r = reads_lower c (mark t.Equal ∷ (write e ++ ((tree_fields_tail ns es ++ close_fields semi) ++ zs))) (i + 1) (s.Take t.Equal ∷ s.Expr 0 ∷ s.ExprFields ∷ s.Dots ∷ k) (name (past (i + 1) (write_called c)) [], (e, (record { names = ns; trees = es; semi = semi }, (cs, vs)))) l.0 p.0
      (reads_mark t.Equal (write e ++ ((tree_fields_tail ns es ++ close_fields semi) ++ zs)) (past (i + 1) (write_called c)) (s.Expr 0 ∷ s.ExprFields ∷ s.Dots ∷ k) (e, (record { names = ns; trees = es; semi = semi }, (cs, vs)))
      (whole_by e ((tree_fields_tail ns es ++ close_fields semi) ++ zs) (past (i + 1) (write_called c) + 1) s.ExprFields (s.Dots ∷ k) (record { names = ns; trees = es; semi = semi }, (cs, vs)) (λ m zs j q c us. reads_expr e m zs j q c us) refl m.0 p.1 (fields_follow ns es semi zs)
      (reads_fields ns es semi zs (past (past (i + 1) (write_called c) + 1) (write e)) (s.Dots ∷ k) (cs, vs) l.1 m.1 p.2 (rw field_past at h)))) in
      rw (field_tokens (write_called c) (write e) (tree_fields_tail ns es) (close_fields semi) zs)
      (subst (λ d. TopReads b k (mark t.LBrace ∷ (write_called c ++ (mark t.Equal ∷ (write e ++ ((tree_fields_tail ns es ++ close_fields semi) ++ zs))))) i (accessed i (record_tree i d e (record { names = ns; trees = es; semi = semi })) cs) vs) r.1
      (reads_record b r.0 (name (past (i + 1) (write_called c)) []) e (record { names = ns; trees = es; semi = semi }) cs (write_called c ++ (mark t.Equal ∷ (write e ++ ((tree_fields_tail ns es ++ close_fields semi) ++ zs)))) i k vs r.2))

  -- fields after the first one
  reads_fields : (ns : List Called) (ts : SyntaxTrees) (semi : Bool) (zs : List Lexeme) (i : ℕ) (k : List Symbol) (vs : Vals k) → AreNamedTrees ns ts → AreLevel ts → PlacedFieldTrees (i + 1) ns ts → Reads k zs (past i (tree_fields_tail ns ts ++ close_fields semi)) vs → Reads (s.ExprFields ∷ k) ((tree_fields_tail ns ts ++ close_fields semi) ++ zs) i (record { names = ns; trees = ts; semi = semi }, vs)
  reads_fields [] none true zs i k vs l m p h = rw h refl
  reads_fields [] none false zs i k vs l m p h = rw h refl
  reads_fields [] (more e es) semi zs i k vs l m p h = elim l [ ]
  reads_fields (c ∷ ns) none semi zs i k vs l m p h = elim l [ ]
  reads_fields (c ∷ ns) (more e es) semi zs i k vs l m p h = rw (
    field_tokens (write_called c) (write e) (tree_fields_tail ns es) (close_fields semi) zs,
    other_tree_field c e (record { names = ns; trees = es; semi = semi }) (mark t.Equal ∷ (write e ++ ((tree_fields_tail ns es ++ close_fields semi) ++ zs))) (i + 1) k (name (past (i + 1) (write_called c)) []) vs l.0 p.0
        (reads_mark t.Equal (write e ++ ((tree_fields_tail ns es ++ close_fields semi) ++ zs)) (past (i + 1) (write_called c)) (s.Expr 0 ∷ s.ExprFields ∷ k) (e, (record { names = ns; trees = es; semi = semi }, vs))
        (whole_by e ((tree_fields_tail ns es ++ close_fields semi) ++ zs) (past (i + 1) (write_called c) + 1) s.ExprFields k (record { names = ns; trees = es; semi = semi }, vs) (λ m zs j q c us. reads_expr e m zs j q c us) refl m.0 p.1 (fields_follow ns es semi zs)
        (reads_fields ns es semi zs (past (past (i + 1) (write_called c) + 1) (write e)) k vs l.1 m.1 p.2 (rw field_past at h)))),
  ) refl

  -- what is in parentheses
  reads_members : (ts : SyntaxTrees) (cs : List Called) (zs : List Lexeme) (i : ℕ) (k : List Symbol) (vs : Vals k) → AreLevel ts → PlacedCommas i ts → Reads (s.Dots ∷ k) zs (past i (write_list ts ++ (mark t.RParen ∷ []))) (cs, vs) → MembersRead ts cs zs i k vs
  reads_members none cs zs i k vs l p h = tt
  reads_members (more e es) cs zs i k vs l p h = rw (regroup (write e) (write_tail es) (mark t.RParen ∷ []) zs) (whole_by e ((write_tail es ++ (mark t.RParen ∷ [])) ++ zs) i s.GroupRest k (closes_group es cs, vs) (λ m zs j q c us. reads_expr e m zs j q c us) refl l.0 p.0 (comma_follow es zs) (reads_close es cs zs (past i (write e)) k vs l.1 p.1 (rw (append_assoc, past-append) at h)))

  -- what is in a `match`
  reads_matched : (ts : SyntaxTrees) (bar : Bool) (bs : Branches) (cs : List Called) (zs : List Lexeme) (i : ℕ) (k : List Symbol) (vs : Vals k) → AreLevel ts → PlacedCommas i ts → Reads (s.Branch ∷ s.Dots ∷ k) (bar_before bar ++ ((write_branches bs ++ (mark t.EndWord ∷ [])) ++ zs)) (past i (write_list ts) + 1) (record { bar = bar; branches = bs }, (cs, vs)) → MatchRead ts bar bs cs zs i k vs
  reads_matched none bar bs cs zs i k vs l p h = tt
  reads_matched (more e es) bar bs cs zs i k vs l p h = rw (match_tokens (write e) (write_tail es) (bar_before bar) (write_branches bs) zs) (whole_by e (write_tail es ++ (mark t.WithWord ∷ (bar_before bar ++ ((write_branches bs ++ (mark t.EndWord ∷ [])) ++ zs)))) i s.Scrutinees (s.Dots ∷ k) (record { others = es; bar = bar; branches = bs }, (cs, vs)) (λ m zs j q c us. reads_expr e m zs j q c us) refl l.0 p.0 (list_follow es t.WithWord (bar_before bar ++ ((write_branches bs ++ (mark t.EndWord ∷ [])) ++ zs)) refl refl refl)
      (reads_scrutinees es (bar_before bar ++ ((write_branches bs ++ (mark t.EndWord ∷ [])) ++ zs)) (past i (write e)) (s.Dots ∷ k) bar bs (cs, vs) l.1 p.1 (rw past-append at h)))

  -- after the first expression in parentheses
  reads_close : (es : SyntaxTrees) (cs : List Called) (ys : List Lexeme) (i : ℕ) (k : List Symbol) (vs : Vals k) → AreLevel es → PlacedCommas (i + 1) es → Reads (s.Dots ∷ k) ys (past i (write_tail es ++ (mark t.RParen ∷ []))) (cs, vs) → Reads (s.GroupRest ∷ k) ((write_tail es ++ (mark t.RParen ∷ [])) ++ ys) i (closes_group es cs, vs)
  reads_close none cs ys i k vs l p h = rw h refl
  reads_close (more e es) cs ys i k vs l p h = rw (regroup (write e) (write_tail es) (mark t.RParen ∷ []) ys, whole_by e ((write_tail es ++ (mark t.RParen ∷ [])) ++ ys) (i + 1) s.More (s.Dots ∷ k) (es, (cs, vs)) (λ m zs j q c us. reads_expr e m zs j q c us) refl l.0 p.0 (comma_follow es ys) (reads_more es ys (past (i + 1) (write e)) (s.Dots ∷ k) (cs, vs) l.1 p.1 (subst (λ n. Reads (s.Dots ∷ k) ys n (cs, vs)) (tail_past (write e) (write_tail es) (mark t.RParen ∷ []) i) h))) refl

  reads_more : (es : SyntaxTrees) (ys : List Lexeme) (i : ℕ) (k : List Symbol) (vs : Vals k) → AreLevel es → PlacedCommas (i + 1) es → Reads k ys (past i (write_tail es ++ (mark t.RParen ∷ []))) vs → Reads (s.More ∷ k) ((write_tail es ++ (mark t.RParen ∷ [])) ++ ys) i (es, vs)
  reads_more none ys i k vs l p h = rw h refl
  reads_more (more e es) ys i k vs l p h = rw (regroup (write e) (write_tail es) (mark t.RParen ∷ []) ys, whole_by e ((write_tail es ++ (mark t.RParen ∷ [])) ++ ys) (i + 1) s.More k (es, vs) (λ m zs j q c us. reads_expr e m zs j q c us) refl l.0 p.0 (comma_follow es ys) (reads_more es ys (past (i + 1) (write e)) k vs l.1 p.1 (subst (λ n. Reads k ys n vs) (tail_past (write e) (write_tail es) (mark t.RParen ∷ []) i) h))) refl

end_rest : (b : Bool) (u : ℕ) (j : ℕ) → RestBy b 0 u [] j [] stop tt
end_rest true u j = (refl, refl)
end_rest false u j = refl

pub reads_alone : (e : SyntaxTree) (i : ℕ) → IsLevel e → IsPlacedTree i e → read (write e) i false (s.Expr 0 ∷ []) ≡ Some (e, tt)
reads_alone e i l p = ap (λ v. read v i false (s.Expr 0 ∷ [])) (sym (append-nil (write e))) ∙ reads_expr e 0 [] i [] stop tt l p (omega arith) (record { args = tt; dots = tt; ops = tt }) (end_rest (ends_open e) (tight e) (past i (write e)))
