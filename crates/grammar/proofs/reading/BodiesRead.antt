-- The tokens of types' declarations, members, clauses, links and substitutions are read as them.
use Rattle.grammar.proofs.reading.Common.{◌≡◌, ℕ, ◌+◌, Bool, true, false, cond, List, [], ◌∷◌, ◌++◌, Option, Some, None, option_map, refl, sym, ap, ◌∙◌, subst, append_assoc, same, is_tail, same_true, no_false, Symbol, Name, Lexeme, Word, at, lx, mark, name, SyntaxForm, SyntaxForms, IsForm, IsHead, IsPlaced, Own, aliased, called, composed, enclosed, fielded_form, form_row, lower, past, scoped, type_variable, type_forms, upper, variable, wild, write_called, write_form, write_own, HasSome, IsLevel, IsPlacedTree, IsTypePart, PlacedNames, PlacedPart, SyntaxTree, bar_before, type_part, write, Algebraic, Clause, Constructor, Inductive, Member, clause_list, clause_tail, constructor_list, constructor_tail, definition, inductive_tail, other_members, param_row, variable_row, write_inductive, write_member, AreClauses, AreConstructors, AreInductive, AreMembers, AreParams, IsDefined, IsOptionalDefinition, IsNewSymbol, IsProp, PlacedClauses, PlacedConstructors, PlacedDefinition, PlacedInductive, PlacedInductives, PlacedMembers, ClausesPart, FieldsPart, TypePart, UpperPart, fields_of, is_algebraic, is_alias, scope_of, with_clause, ReadingRow, Vals, extend, row, then_row, upper_own, rows, blank, by_row, find, values_over, read, with_blank, ParamGroup, IsTypeBody, PlacedTypeBody, write_type_body}
use Rattle.tokens_why.specs.declared.terminal.Terminal.TheVariants as t
use Rattle.grammar.specs.declared.symbols.Symbol.TheVariants as s
use Rattle.grammar.proofs.reading.Reading.{Reads, Stops, find_apart, find_extend, fused, passed, past-append}
use Rattle.grammar.proofs.reading.FormsRead.{reads_qlid, reads_row, reads_tuple, reads_type}
use Rattle.grammar.proofs.reading.Operators.{Follow}
use Rattle.grammar.proofs.reading.Operands.{reads_mark, whole_by}
use Rattle.grammar.proofs.reading.TreesRead.{reads_expr}
use Rattle.grammar.proofs.reading.DeclTokens.{function_past, member_past}
use Rattle.grammar.proofs.reading.Ends.{Ends}
use Rattle.grammar.proofs.reading.PartsRead.{con_tail, reads_fields, reads_id, reads_op, reads_params, reads_braced}

-- a whole expression before what is no operator
pub expr_then : (e : SyntaxTree) (zs : List Lexeme) (i : ℕ) (top : Symbol) (k : List Symbol) (vs : Vals (top ∷ k)) → is_tail top ≡ false → IsLevel e → IsPlacedTree i e → Follow 0 zs → Reads (top ∷ k) zs (past i (write e)) vs → Reads (s.Expr 0 ∷ top ∷ k) (write e ++ zs) i (e, vs)
expr_then e zs i top k vs t l p f h = whole_by e zs i top k vs (λ m zs j q c us. reads_expr e m zs j q c us) t l p f h

-- A constructor's fields, where its name may as well have been a scope.
pub upper_fields : (xs : List Lexeme) (i : ℕ) (k : List Symbol) (vs : FieldsPart × Vals (s.Decls ∷ k)) → Reads (s.Fields ∷ s.Decls ∷ k) xs i vs → Reads (s.Upper ∷ s.Decls ∷ k) xs i (fields_of vs.0, vs.1)
upper_fields [] i k vs h = cc
upper_fields (x ∷ xs) i k vs h = by_dot (same t.Dot x.terminal) refl
  where
    by_blank : (o : Option (Vals (s.Decls ∷ k))) → with_blank s.Fields (s.Decls ∷ k) (Some (record { fields = []; constructors = []; others = [] })) o ≡ Some vs → with_blank s.Upper (s.Decls ∷ k) (Some (fields_of (record { fields = []; constructors = []; others = [] }))) o ≡ Some (fields_of vs.0, vs.1)
    by_blank None h = cc
    by_blank (Some us) h = ap (option_map {U = UpperPart × Vals (s.Decls ∷ k)} (λ q. (fields_of q.0, q.1))) h

    found_by : find upper_own x.terminal ≡ None → find (rows s.Upper) x.terminal ≡ option_map (then_row s.Upper s.Fields [] (λ v vs. fields_of v)) (find (rows s.Fields) x.terminal)
    found_by n = find_apart upper_own (extend s.Upper s.Fields [] (λ v vs. fields_of v) (rows s.Fields)) x.terminal n ∙ find_extend s.Upper s.Fields [] (λ v vs. fields_of v) (rows s.Fields) x.terminal

    by_found : (o : Option (ReadingRow s.Fields)) → find (rows s.Fields) x.terminal ≡ o → find upper_own x.terminal ≡ None → by_row s.Fields (s.Decls ∷ k) (λ k'. read xs (i + 1) false k') i x.text o (with_blank s.Fields (s.Decls ∷ k) (blank s.Fields) (values_over (λ k'. read xs (i + 1) false k') i x false (s.Decls ∷ k))) ≡ Some vs → Reads (s.Upper ∷ s.Decls ∷ k) (x ∷ xs) i (fields_of vs.0, vs.1)
    by_found (Some r) e n g = ap (λ o. by_row s.Upper (s.Decls ∷ k) (λ k'. read xs (i + 1) false k') i x.text o (with_blank s.Upper (s.Decls ∷ k) (blank s.Upper) (values_over (λ k'. read xs (i + 1) false k') i x false (s.Decls ∷ k)))) (found_by n ∙ ap (option_map (then_row s.Upper s.Fields [] (λ v vs. fields_of v))) e)
        ∙ fused {C = UpperPart × Vals (s.Decls ∷ k)} (λ u. (fields_of u.0, u.1)) (λ u. r.act (s.Decls ∷ k) i x.text u) (read xs (i + 1) false (r.following (s.Decls ∷ k)))
        ∙ ap (option_map {U = UpperPart × Vals (s.Decls ∷ k)} (λ u. (fields_of u.0, u.1))) g
    by_found None e n g = ap (λ o. by_row s.Upper (s.Decls ∷ k) (λ k'. read xs (i + 1) false k') i x.text o (with_blank s.Upper (s.Decls ∷ k) (blank s.Upper) (values_over (λ k'. read xs (i + 1) false k') i x false (s.Decls ∷ k)))) (found_by n ∙ ap (option_map (then_row s.Upper s.Fields [] (λ v vs. fields_of v))) e) ∙ by_blank (values_over (λ k'. read xs (i + 1) false k') i x false (s.Decls ∷ k)) g

    no_dot : (w : Word) → Reads (s.Fields ∷ s.Decls ∷ k) (lx t.Dot w ∷ xs) i vs → ⊥
    no_dot w h = cc

    by_dot : (b : Bool) → same t.Dot x.terminal ≡ b → Reads (s.Upper ∷ s.Decls ∷ k) (x ∷ xs) i (fields_of vs.0, vs.1)
    by_dot true e = absurd (no_dot x.text (subst (λ y. Reads (s.Fields ∷ s.Decls ∷ k) (lx y x.text ∷ xs) i vs) (sym (same_true t.Dot x.terminal e)) h))
    by_dot false e = by_found (find (rows s.Fields) x.terminal) refl (ap (λ b. cond b (Some (row s.Upper t.Dot (s.Qlid ∷ s.Targs ∷ []) (λ i w vs. scope_of vs.0 vs.1.0))) None) e) h

-- what a type is declared to be
pub typedef_headed : (qs : List Word) (o : Own) (ts : SyntaxForms) (zs : List Lexeme) (i : ℕ) (k : List Symbol) (vs : Vals k) → IsHead type_forms o → Reads (s.Targs ∷ k) zs (past i (scoped qs ++ write_own o)) (ts, vs) → Reads (s.Typedef ∷ k) ((scoped qs ++ write_own o) ++ zs) i (is_alias (composed (at i) (called i qs o) ts), vs)
typedef_headed [] (lower w) ts zs i k vs l h = rw h refl
typedef_headed (q ∷ qs) (lower w) ts zs i k vs l h = rw (reads_qlid qs w zs (i + 1 + 1) (s.Targs ∷ k) (ts, vs) h) refl
typedef_headed qs _ ts zs i k vs l h = elim l [ ]

pub typedef_alias : (f : SyntaxForm) (zs : List Lexeme) (i : ℕ) (k : List Symbol) (vs : Vals k) → IsForm type_forms f → IsPlaced i f → Stops s.Targs zs → Reads k zs (past i (write_form f)) vs → Reads (s.Typedef ∷ k) (write_form f ++ zs) i (is_alias f, vs)
typedef_alias (type_variable a w) zs i k vs l p n h = rw (h, p) refl
typedef_alias (composed a c ts) zs i k vs l p n h = rw (append_assoc (write_called c) (form_row ts) zs, p.0, p.1) (typedef_headed c.scopes c.own ts (form_row ts ++ zs) i k vs l.0 (reads_row ts zs (past i (write_called c)) k vs l.1 p.2 n (rw past-append at h)))
typedef_alias (enclosed a ts) zs i k vs l p n h = rw (p.0, reads_tuple ts zs (i + 1) k vs l p.1 h) refl
typedef_alias (wild a) zs i k vs l p n h = elim l [ ]
typedef_alias (variable a m) zs i k vs l p n h = elim l [ ]
typedef_alias (aliased a f m) zs i k vs l p n h = elim l.0 [ ]
typedef_alias (fielded_form a cs ps semi) zs i k vs l p n h = elim l.0 [ ]

typedef_con : (bar : Bool) (cs : List Constructor) (as_ : List Algebraic) (zs : List Lexeme) (i : ℕ) (k : List Symbol) (vs : Vals (s.Decls ∷ k)) → HasSome cs → AreConstructors cs → PlacedConstructors (past i (bar_before bar)) cs → Reads (s.Fields ∷ s.Decls ∷ k) zs (past (past i (bar_before bar)) (constructor_list cs)) (record { fields = []; constructors = []; others = as_ }, vs) → Reads (s.Typedef ∷ s.Decls ∷ k) (bar_before bar ++ (constructor_list cs ++ zs)) i (is_algebraic (record { bar = bar; constructors = cs; fields = []; semi = false; others = as_ }), vs)
typedef_con bar [] as_ zs i k vs e l p h = elim e [ ]
typedef_con true (c ∷ cs) as_ zs i k vs e l p h = rw (append_assoc (param_row c.fields) (constructor_tail cs) zs, reads_fields c.fields cs as_ (constructor_tail cs ++ zs) (i + 1 + 1) (s.Decls ∷ k) vs l.0 p.1 (con_tail cs as_ zs (past (i + 1 + 1) (param_row c.fields)) (s.Decls ∷ k) vs l.1 p.2 (rw past-append at h))) (ap (λ v. Some (is_algebraic (record { bar = true; constructors = record { name = name v c.name.text; fields = c.fields } ∷ cs; fields = []; semi = false; others = as_ }), vs)) (sym p.0))
typedef_con false (c ∷ cs) as_ zs i k vs e l p h = rw (append_assoc (param_row c.fields) (constructor_tail cs) zs, upper_fields (param_row c.fields ++ (constructor_tail cs ++ zs)) (i + 1) k (record { fields = c.fields; constructors = cs; others = as_ }, vs) (reads_fields c.fields cs as_ (constructor_tail cs ++ zs) (i + 1) (s.Decls ∷ k) vs l.0 p.1 (con_tail cs as_ zs (past (i + 1) (param_row c.fields)) (s.Decls ∷ k) vs l.1 p.2 (rw past-append at h)))) (ap (λ v. Some (is_algebraic (record { bar = false; constructors = record { name = name v c.name.text; fields = c.fields } ∷ cs; fields = []; semi = false; others = as_ }), vs)) (sym p.0))

pub typedef_body : (bar : Bool) (cs : List Constructor) (fs : List ParamGroup) (semi : Bool) (as_ : List Algebraic) (zs : List Lexeme) (i : ℕ) (k : List Symbol) (vs : Vals (s.Decls ∷ k)) → IsTypeBody bar cs fs semi → PlacedTypeBody i bar cs fs → Reads (s.Fields ∷ s.Decls ∷ k) zs (past i (write_type_body bar cs fs semi)) (record { fields = []; constructors = []; others = as_ }, vs) → Reads (s.Algs ∷ s.Decls ∷ k) zs (past i (write_type_body bar cs fs semi)) (as_, vs) → Reads (s.Typedef ∷ s.Decls ∷ k) (write_type_body bar cs fs semi ++ zs) i (is_algebraic (record { bar = bar; constructors = cs; fields = fs; semi = semi; others = as_ }), vs)
typedef_body bar cs [] false as_ zs i k vs l p h g = rw (append_assoc (bar_before bar) (constructor_list cs) zs) (typedef_con bar cs as_ zs i k vs l.0 l.1 p (rw past-append at h))
typedef_body bar cs [] true as_ zs i k vs l p h g = absurd (no_false (sym l.2))
typedef_body false [] (q ∷ ps) semi as_ zs i k vs l p h g = rw (reads_braced q ps semi as_ zs (i + 1) (s.Decls ∷ k) vs l.0 p g) refl
typedef_body false (c ∷ cs) (q ∷ ps) semi as_ zs i k vs l p h g = cc
typedef_body true cs (q ∷ ps) semi as_ zs i k vs l p h g = absurd (no_false (sym l.2))

pub reads_tvars : (ns : List Name) (d : Option TypePart) (zs : List Lexeme) (i : ℕ) (k : List Symbol) (vs : Vals k) → PlacedNames i ns → Reads (s.Tvars ∷ k) zs (past i (variable_row ns)) (record { vars = []; equation = d }, vs) → Reads (s.Tvars ∷ k) (variable_row ns ++ zs) i (record { vars = ns; equation = d }, vs)
reads_tvars [] d zs i k vs p h = h
reads_tvars (n ∷ ns) d zs i k vs p h = rw (reads_tvars ns d zs (i + 1) k vs p.1 h) (ap (λ v. Some (record { vars = name v n.text ∷ ns; equation = d }, vs)) (sym p.0))

-- definitions and members
pub members_follow : (ms : List Member) (zs : List Lexeme) → Ends zs → Follow 0 (other_members ms ++ zs)
members_follow [] zs n = n.follow
members_follow (d ∷ ms) zs n = record { args = refl; dots = refl; ops = λ i. absurd (no_false i) }

part_stop : (ty : Option SyntaxForm) (zs : List Lexeme) → Stops s.Params (type_part ty ++ (mark t.Equal ∷ zs))
part_stop None zs = refl
part_stop (Some f) zs = refl

member_read : (ty : Option SyntaxForm) (e : SyntaxTree) (ms : List Member) (zs : List Lexeme) (i : ℕ) (k : List Symbol) (vs : Vals k) → IsTypePart ty → PlacedPart i ty → IsLevel e → IsPlacedTree (past i (type_part ty) + 1) e → Follow 0 zs → Reads (s.Members ∷ k) zs (past (past i (type_part ty) + 1) (write e)) (ms, vs) → Reads (s.Member ∷ k) (type_part ty ++ (mark t.Equal ∷ (write e ++ zs))) i (record { result = ty; body = e; others = ms }, vs)
member_read None e ms zs i k vs l p m q f h = rw (expr_then e zs (i + 1) s.Members k (ms, vs) refl m q f h) refl
member_read (Some g) e ms zs i k vs l p m q f h = rw (reads_type g (mark t.Equal ∷ (write e ++ zs)) (i + 1) (s.Take t.Equal ∷ s.Expr 0 ∷ s.Members ∷ k) (name (past (i + 1) (write_form g)) [], (e, (ms, vs))) l p refl (reads_mark t.Equal (write e ++ zs) (past (i + 1) (write_form g)) (s.Expr 0 ∷ s.Members ∷ k) (e, (ms, vs)) (expr_then e zs (past (i + 1) (write_form g) + 1) s.Members k (ms, vs) refl m q f h))) refl

member_tokens : (a b c d e ys : List Lexeme) → ((a ++ (b ++ (c ++ (mark t.Equal ∷ d)))) ++ e) ++ ys ≡ a ++ (b ++ (c ++ (mark t.Equal ∷ (d ++ (e ++ ys)))))
member_tokens a b c d e ys = simp append_assoc

pub reads_members : (ms : List Member) (zs : List Lexeme) (i : ℕ) (k : List Symbol) (vs : Vals k) → AreMembers ms → PlacedMembers i ms → Ends zs → Reads k zs (past i (other_members ms)) vs → Reads (s.Members ∷ k) (other_members ms ++ zs) i (ms, vs)
reads_members [] zs i k vs l p n h = passed s.Members [] k zs i vs refl refl n.no_members h
reads_members (d ∷ ms) zs i k vs l p n h = rw (
  member_tokens (write_called d.name) (param_row d.params) (type_part d.result) (write d.body) (other_members ms) zs,
  reads_op d.name (param_row d.params ++ (type_part d.result ++ (mark t.Equal ∷ (write d.body ++ (other_members ms ++ zs))))) (i + 1) (s.Params ∷ s.Member ∷ k) (d.params, (record { result = d.result; body = d.body; others = ms }, vs)) l.0.0 p.0.0
      (reads_params d.params (type_part d.result ++ (mark t.Equal ∷ (write d.body ++ (other_members ms ++ zs)))) (past (i + 1) (write_called d.name)) (s.Member ∷ k) (record { result = d.result; body = d.body; others = ms }, vs) l.0.1 p.0.1 (part_stop d.result (write d.body ++ (other_members ms ++ zs)))
      (member_read d.result d.body ms (other_members ms ++ zs) (past (past (i + 1) (write_called d.name)) (param_row d.params)) k vs l.0.2 p.0.2 l.0.3 p.0.3 (members_follow ms zs n)
      (reads_members ms zs (past (past (past (past (past (i + 1) (write_called d.name)) (param_row d.params)) (type_part d.result)) (mark t.Equal ∷ [])) (write d.body)) k vs l.1 (subst (λ j. PlacedMembers j ms) (member_past (write_called d.name) (param_row d.params) (type_part d.result) (write d.body) (mark t.Equal) (i + 1)) p.1) n
      (subst (λ j. Reads k zs j vs) (past-append (write_member d) (other_members ms) (i + 1) ∙ ap (λ j. past j (other_members ms)) (member_past (write_called d.name) (param_row d.params) (type_part d.result) (write d.body) (mark t.Equal) (i + 1))) h)))),
) refl

pub reads_body : (e : Option SyntaxTree) (ms : List Member) (zs : List Lexeme) (i : ℕ) (k : List Symbol) (vs : Vals k) → IsDefined e ms → PlacedDefinition i e → PlacedMembers (past i (definition e)) ms → Ends zs → Reads k zs (past (past i (definition e)) (other_members ms)) vs → Reads (s.Body ∷ k) (definition e ++ (other_members ms ++ zs)) i (record { definition = e; members = ms }, vs)
reads_body None [] zs i k vs l p q n h = passed s.Body (record { definition = None; members = [] }) k zs i vs refl refl n.no_body h
reads_body None (d ∷ ms) zs i k vs l p q n h = elim l [ ]
reads_body (Some e) ms zs i k vs l p q n h = rw (expr_then e (other_members ms ++ zs) (i + 1) s.Members k (ms, vs) refl l.0 p (members_follow ms zs n) (reads_members ms zs (past (i + 1) (write e)) k vs l.1 q n h)) refl

pub reads_value : (e : Option SyntaxTree) (zs : List Lexeme) (i : ℕ) (k : List Symbol) (vs : Vals (s.Decls ∷ k)) → IsOptionalDefinition e → PlacedDefinition i e → Ends zs → Reads (s.Decls ∷ k) zs (past i (definition e)) vs → Reads (s.Value ∷ s.Decls ∷ k) (definition e ++ zs) i (e, vs)
reads_value None zs i k vs l p n h = passed s.Value None (s.Decls ∷ k) zs i vs refl refl n.no_value h
reads_value (Some e) zs i k vs l p n h = rw (expr_then e zs (i + 1) s.Decls k vs refl l p n.follow h) refl

-- clauses
clause_follow : (cs : List Clause) (zs : List Lexeme) → Follow 0 zs → Follow 0 (clause_tail cs ++ zs)
clause_follow [] zs n = n
clause_follow (c ∷ cs) zs n = record { args = refl; dots = refl; ops = λ i. absurd (no_false i) }

clause_split : (a b c ys : List Lexeme) → ((a ++ (mark t.Colon ∷ b)) ++ c) ++ ys ≡ a ++ (mark t.Colon ∷ (b ++ (c ++ ys)))
clause_split a b c ys = simp append_assoc

pub clause_ends : (a b c : List Lexeme) (i : ℕ) → past i ((a ++ (mark t.Colon ∷ b)) ++ c) ≡ past (past (past i a + 1) b) c
clause_ends a b c i = past-append (a ++ (mark t.Colon ∷ b)) c i ∙ ap (λ j. past j c) (past-append a (mark t.Colon ∷ b) i)

pub reads_clause_tail : (cs : List Clause) (is : List Inductive) (zs : List Lexeme) (i : ℕ) (k : List Symbol) (vs : Vals k) → AreClauses cs → PlacedClauses (i + 1) cs → Follow 0 zs → Reads (s.Clauses ∷ k) zs (past i (clause_tail cs)) (record { clauses = []; others = is }, vs) → Reads (s.Clauses ∷ k) (clause_tail cs ++ zs) i (record { clauses = cs; others = is }, vs)
reads_clause_tail [] is zs i k vs l p n h = h
reads_clause_tail (c ∷ cs) is zs i k vs l p n h = rw (
  clause_split (write_called c.name) (write c.prop) (clause_tail cs) zs,
  reads_id c.name (mark t.Colon ∷ (write c.prop ++ (clause_tail cs ++ zs))) (i + 1) (s.Take t.Colon ∷ s.Expr 0 ∷ s.Clauses ∷ k) (name (past (i + 1) (write_called c.name)) [], (c.prop, (record { clauses = cs; others = is }, vs))) l.0 p.0
      (reads_mark t.Colon (write c.prop ++ (clause_tail cs ++ zs)) (past (i + 1) (write_called c.name)) (s.Expr 0 ∷ s.Clauses ∷ k) (c.prop, (record { clauses = cs; others = is }, vs))
      (expr_then c.prop (clause_tail cs ++ zs) (past (i + 1) (write_called c.name) + 1) s.Clauses k (record { clauses = cs; others = is }, vs) refl l.1 p.1 (clause_follow cs zs n)
      (reads_clause_tail cs is zs (past (past (i + 1) (write_called c.name) + 1) (write c.prop)) k vs l.2 (rw past-append at p.2) n (subst (λ j. Reads (s.Clauses ∷ k) zs j (record { clauses = []; others = is }, vs)) (clause_ends (write_called c.name) (write c.prop) (clause_tail cs) (i + 1)) h)))),
) refl

clause_named : (qs : List Word) (o : Own) (e : SyntaxTree) (p : ClausesPart) (n : Name) (zs : List Lexeme) (i : ℕ) (k : List Symbol) (vs : Vals k) → qs ≡ [] → IsProp o → Reads (s.Take t.Colon ∷ s.Expr 0 ∷ s.Clauses ∷ k) zs (past i (scoped qs ++ write_own o)) (n, (e, (p, vs))) → Reads (s.Clause ∷ k) ((scoped qs ++ write_own o) ++ zs) i (record { bar = false; rest = with_clause (called i qs o) e p }, vs)
clause_named [] (lower w) e p n zs i k vs q l h = rw h refl
clause_named [] (upper w) e p n zs i k vs q l h = rw h refl
clause_named [] _ e p n zs i k vs q l h = elim l [ ]
clause_named (q ∷ qs) o e p n zs i k vs u l h = cc

pub reads_clause : (bar : Bool) (cs : List Clause) (is : List Inductive) (zs : List Lexeme) (i : ℕ) (k : List Symbol) (vs : Vals k) → HasSome cs → AreClauses cs → PlacedClauses (past i (bar_before bar)) cs → Follow 0 zs → Reads (s.Clauses ∷ k) zs (past (past i (bar_before bar)) (clause_list cs)) (record { clauses = []; others = is }, vs) → Reads (s.Clause ∷ k) (bar_before bar ++ (clause_list cs ++ zs)) i (record { bar = bar; rest = record { clauses = cs; others = is } }, vs)
reads_clause bar [] is zs i k vs e l p n h = elim e [ ]
reads_clause true (c ∷ cs) is zs i k vs e l p n h = rw (
  clause_split (write_called c.name) (write c.prop) (clause_tail cs) zs,
  reads_id c.name (mark t.Colon ∷ (write c.prop ++ (clause_tail cs ++ zs))) (i + 1) (s.Take t.Colon ∷ s.Expr 0 ∷ s.Clauses ∷ k) (name (past (i + 1) (write_called c.name)) [], (c.prop, (record { clauses = cs; others = is }, vs))) l.0 p.0
      (reads_mark t.Colon (write c.prop ++ (clause_tail cs ++ zs)) (past (i + 1) (write_called c.name)) (s.Expr 0 ∷ s.Clauses ∷ k) (c.prop, (record { clauses = cs; others = is }, vs))
      (expr_then c.prop (clause_tail cs ++ zs) (past (i + 1) (write_called c.name) + 1) s.Clauses k (record { clauses = cs; others = is }, vs) refl l.1 p.1 (clause_follow cs zs n)
      (reads_clause_tail cs is zs (past (past (i + 1) (write_called c.name) + 1) (write c.prop)) k vs l.2 (rw past-append at p.2) n (subst (λ j. Reads (s.Clauses ∷ k) zs j (record { clauses = []; others = is }, vs)) (clause_ends (write_called c.name) (write c.prop) (clause_tail cs) (i + 1)) h)))),
) refl
reads_clause false (c ∷ cs) is zs i k vs e l p n h = rw (clause_split (write_called c.name) (write c.prop) (clause_tail cs) zs) (subst (λ v. Reads (s.Clause ∷ k) (write_called c.name ++ (mark t.Colon ∷ (write c.prop ++ (clause_tail cs ++ zs)))) i (record { bar = false; rest = record { clauses = record { name = record { at = v; scopes = c.name.scopes; own = c.name.own }; prop = c.prop } ∷ cs; others = is } }, vs)) (sym p.0)
    (clause_named c.name.scopes c.name.own c.prop (record { clauses = cs; others = is }) (name (past i (write_called c.name)) []) (mark t.Colon ∷ (write c.prop ++ (clause_tail cs ++ zs))) i k vs l.0.0 l.0.1
    (reads_mark t.Colon (write c.prop ++ (clause_tail cs ++ zs)) (past i (write_called c.name)) (s.Expr 0 ∷ s.Clauses ∷ k) (c.prop, (record { clauses = cs; others = is }, vs))
    (expr_then c.prop (clause_tail cs ++ zs) (past i (write_called c.name) + 1) s.Clauses k (record { clauses = cs; others = is }, vs) refl l.1 p.1 (clause_follow cs zs n)
    (reads_clause_tail cs is zs (past (past i (write_called c.name) + 1) (write c.prop)) k vs l.2 (rw past-append at p.2) n (subst (λ j. Reads (s.Clauses ∷ k) zs j (record { clauses = []; others = is }, vs)) (clause_ends (write_called c.name) (write c.prop) (clause_tail cs) i) h))))))

pub ind_follow : (is : List Inductive) (zs : List Lexeme) → Ends zs → Follow 0 (inductive_tail is ++ zs)
ind_follow [] zs n = n.follow
ind_follow (d ∷ is) zs n = record { args = refl; dots = refl; ops = λ i. absurd (no_false i) }

pub ind_tokens_of : (a b c d e ys : List Lexeme) → ((a ++ (b ++ (mark t.Equal ∷ (c ++ d)))) ++ e) ++ ys ≡ a ++ (b ++ (mark t.Equal ∷ (c ++ (d ++ (e ++ ys)))))
ind_tokens_of a b c d e ys = simp append_assoc

-- one predicate, and what comes after it
pub reads_inductive : (d : Inductive) (is : List Inductive) (zs : List Lexeme) (i : ℕ) (k : List Symbol) (vs : Vals k) → IsNewSymbol d.name → AreParams d.params → HasSome d.clauses → AreClauses d.clauses → PlacedInductive i d → Follow 0 zs → Reads (s.Clauses ∷ k) zs (past (past (past (past (past i (write_called d.name)) (param_row d.params) + 1) (bar_before d.bar)) (clause_list d.clauses)) []) (record { clauses = []; others = is }, vs) → Reads (s.Op ∷ s.Params ∷ s.Take t.Equal ∷ s.Clause ∷ k) (write_called d.name ++ (param_row d.params ++ (mark t.Equal ∷ (bar_before d.bar ++ (clause_list d.clauses ++ zs))))) i (d.name, (d.params, (name (past (past i (write_called d.name)) (param_row d.params)) [], (record { bar = d.bar; rest = record { clauses = d.clauses; others = is } }, vs))))
reads_inductive d is zs i k vs l m e o p n h = reads_op d.name (param_row d.params ++ (mark t.Equal ∷ (bar_before d.bar ++ (clause_list d.clauses ++ zs)))) i (s.Params ∷ s.Take t.Equal ∷ s.Clause ∷ k) (d.params, (name (past (past i (write_called d.name)) (param_row d.params)) [], (record { bar = d.bar; rest = record { clauses = d.clauses; others = is } }, vs))) l p.0
    (reads_params d.params (mark t.Equal ∷ (bar_before d.bar ++ (clause_list d.clauses ++ zs))) (past i (write_called d.name)) (s.Take t.Equal ∷ s.Clause ∷ k) (name (past (past i (write_called d.name)) (param_row d.params)) [], (record { bar = d.bar; rest = record { clauses = d.clauses; others = is } }, vs)) m p.1 refl
    (reads_mark t.Equal (bar_before d.bar ++ (clause_list d.clauses ++ zs)) (past (past i (write_called d.name)) (param_row d.params)) (s.Clause ∷ k) (record { bar = d.bar; rest = record { clauses = d.clauses; others = is } }, vs)
    (reads_clause d.bar d.clauses is zs (past (past i (write_called d.name)) (param_row d.params) + 1) k vs e o p.2 n h)))

pub ind_tail : (is : List Inductive) (zs : List Lexeme) (i : ℕ) (k : List Symbol) (vs : Vals k) → AreInductive is → PlacedInductives (i + 1) is → Ends zs → Reads k zs (past i (inductive_tail is)) vs → Reads (s.Clauses ∷ k) (inductive_tail is ++ zs) i (record { clauses = []; others = is }, vs)
ind_tail [] zs i k vs l p n h = passed s.Clauses (record { clauses = []; others = [] }) k zs i vs refl refl n.no_clauses h
ind_tail (d ∷ is) zs i k vs l p n h = rw (
  ind_tokens_of (write_called d.name) (param_row d.params) (bar_before d.bar) (clause_list d.clauses) (inductive_tail is) zs,
  reads_inductive d is (inductive_tail is ++ zs) (i + 1) k vs l.0 l.1 l.2 l.3 p.0 (ind_follow is zs n) (ind_tail is zs (past (past (past (past (i + 1) (write_called d.name)) (param_row d.params) + 1) (bar_before d.bar)) (clause_list d.clauses)) k vs l.4 (subst (λ j. PlacedInductives (j + 1) is) (function_past (write_called d.name) (param_row d.params) (bar_before d.bar) (clause_list d.clauses) (mark t.Equal) (i + 1)) p.1) n
      (subst (λ j. Reads k zs j vs) (past-append (write_inductive d) (inductive_tail is) (i + 1) ∙ ap (λ j. past j (inductive_tail is)) (function_past (write_called d.name) (param_row d.params) (bar_before d.bar) (clause_list d.clauses) (mark t.Equal) (i + 1))) h)),
) refl
