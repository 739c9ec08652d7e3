-- What is read as part of a declaration is right.
use Rattle.grammar.proofs.reading.Common.{◌≡◌, ℕ, ◌+◌, Bool, true, false, List, [], ◌∷◌, ◌++◌, Option, Some, None, refl, sym, ap, ◌∙◌, subst, append_assoc, Name, Lexeme, Word, lx, mark, name, Called, form_list, form_row, form_tail, more_forms, no_forms, past, scoped, write_called, write_form, IsOwn, OperatorToken, bar_before, type_part, write, algebraic_tail, constructor_list, constructor_tail, other_members, param_row, variable_row, write_algebraic, write_member, write_param, AreAlgebraic, IsSymbolName, IsTypedParam, PlacedAlgebraics, PlacedMembers, PlacedTyped, own_op, AlgPart, FieldsPart, NamePart, ParamPart, UpperPart, name_before, after_paren, fields_of, name_names, name_types, new_algebraic, new_constructor, new_member, param, param_names, param_types, prop_called, scope_of, upper_type, extend, tmore_rows, pname_args, rows, no_false, Algebraic, Constructor, ParamGroup, IsTypeBody, PlacedTypeBody, next_field, write_field, field_tail, semicolon_after, write_type_body}
use Rattle.tokens_why.specs.declared.terminal.Terminal.TheVariants as t
use Rattle.grammar.specs.declared.symbols.Symbol.TheVariants as s
use Rattle.grammar.proofs.reading.Reading.{past-append}
use Rattle.grammar.proofs.reading.DeclsRight.{IsAlg, IsConRest, IsFields, IsPname, IsPparen, IsPropAt, IsQids, IsType, IsUpper, write_alg, write_con, write_fields, write_member_part, write_pname, write_pparen, write_qids, write_type, write_upper, IsConOf, IsNextOf, IsRestOf, write_con_of, write_next_of, write_record_next, write_record_rest, write_rest_of}
use Rattle.grammar.proofs.reading.Good.{◌▸◌, AllRows, Good, extend_ok}
use Rattle.grammar.proofs.reading.FormsBuilt.{atype_ok, tmore_ok, ttuple_ok}
use Rattle.grammar.proofs.reading.OpenBuilt.{list_past, list_tokens}
use Rattle.grammar.proofs.reading.TermsBuilt.{append_ok, op_own, op_writes}
use Rattle.grammar.proofs.reading.DeclTokens.{begins, marked_tokens, member_past, member_row, three_past, three_row, two_tokens}

-- constructors, from a name on
pub con_levels : (i : ℕ) (n : Name) (p : FieldsPart) → n.at ≡ i → IsFields (i + 1) p → IsConRest i (new_constructor n p ∷ p.constructors) p.others
con_levels i n p a h = (tt, (h.0, h.2.0), (a, h.1, h.2.1), rw past-append h.2.2)

pub con_tokens : (n : Name) (p : FieldsPart) → constructor_list (new_constructor n p ∷ p.constructors) ++ algebraic_tail p.others ≡ lx t.Uident n.text ∷ write_fields p
con_tokens n p = ap (λ v. lx t.Uident n.text ∷ v) (append_assoc (param_row p.fields) (constructor_tail p.constructors) (algebraic_tail p.others))

-- constructors or the fields of a record, and then other types
body_levels : (i : ℕ) (bar : Bool) (cs : List Constructor) (fs : List ParamGroup) (semi : Bool) (as_ : List Algebraic) → IsConOf i bar cs fs semi as_ → IsTypeBody bar cs fs semi × PlacedTypeBody i bar cs fs × AreAlgebraic as_ × PlacedAlgebraics (past i (write_type_body bar cs fs semi) + 1) as_
body_levels i bar cs [] semi as_ h = ((h.0.0, h.0.1, h.1), h.0.2, h.0.3.0, subst (λ j. PlacedAlgebraics (j + 1) as_) (sym (past-append (bar_before bar) (constructor_list cs) i)) h.0.3.1)
body_levels i bar cs (p ∷ ps) semi as_ h = (
  ((h.2.0, h.2.1, h.3.0), h.0, h.1),
  (h.2.2, h.2.3, h.3.1),
  h.3.2.0,
  subst (λ j. PlacedAlgebraics (j + 1) as_) (sym (past-append (write_field p) (field_tail ps ++ (semicolon_after semi ++ (mark t.RBrace ∷ []))) (i + 1) ∙ three_row (field_tail ps) (semicolon_after semi) (mark t.RBrace ∷ []) (past (i + 1) (write_field p)))) h.3.2.1,
)

body_tokens : (bar : Bool) (cs : List Constructor) (fs : List ParamGroup) (semi : Bool) (as_ : List Algebraic) → write_type_body bar cs fs semi ++ algebraic_tail as_ ≡ write_con_of bar cs fs semi as_
body_tokens bar cs [] semi as_ = append_assoc (bar_before bar) (constructor_list cs) (algebraic_tail as_)
body_tokens bar cs (p ∷ ps) semi as_ = ap (λ v. mark t.LBrace ∷ v) (grouped (write_field p) (field_tail ps) (semicolon_after semi) (algebraic_tail as_))
  where
    grouped : (a b c d : List Lexeme) → (a ++ (b ++ (c ++ (mark t.RBrace ∷ [])))) ++ d ≡ a ++ (b ++ (c ++ (mark t.RBrace ∷ d)))
    grouped a b c d = simp append_assoc

pub alg_levels : (i : ℕ) (n : Name) (a : AlgPart) → n.at ≡ i → IsAlg (i + 1) a → AreAlgebraic (new_algebraic n a.vars a.con ∷ a.con.others) × PlacedAlgebraics i (new_algebraic n a.vars a.con ∷ a.con.others)
alg_levels i n a b h = let l = body_levels (past (i + 1) (variable_row a.vars) + 1) a.con.bar a.con.constructors a.con.fields a.con.semi a.con.others h.1 in
    ((l.0, l.2), ((b, h.0, l.1), subst (λ j. PlacedAlgebraics (j + 1) a.con.others) (sym (past-append (variable_row a.vars) (mark t.Equal ∷ write_type_body a.con.bar a.con.constructors a.con.fields a.con.semi) (i + 1))) l.3))

pub alg_tokens : (n : Name) (a : AlgPart) → write_algebraic (new_algebraic n a.vars a.con) ++ algebraic_tail a.con.others ≡ lx t.Lident n.text ∷ write_alg a
alg_tokens n a = ap (λ v. lx t.Lident n.text ∷ v) (append_assoc (variable_row a.vars) (mark t.Equal ∷ write_type_body a.con.bar a.con.constructors a.con.fields a.con.semi) (algebraic_tail a.con.others) ∙ ap (λ v. variable_row a.vars ++ (mark t.Equal ∷ v)) (body_tokens a.con.bar a.con.constructors a.con.fields a.con.semi a.con.others))

pub tvars_ok : AllRows s.Tvars (rows s.Tvars)
tvars_ok = (λ k i w xs vs p (ys, n, e, g). (ys, ((refl, n.0), n.1), ap (λ v. lx t.TyVar w ∷ v) e, g))
    ▸ (λ k i w xs vs p (ys, n, e, g). (ys, (tt, n), begins t.Equal w xs (write_type vs.0 ++ ys) p e, g))
    ▸ tt

-- a type or a constructor with its fields
pub upper_is : (i : ℕ) (w : Word) (u : UpperPart) → IsUpper (i + 1) u → IsType i (upper_type i w u) × (write_type (upper_type i w u) ≡ lx t.Uident w ∷ write_upper u)
upper_is i w (scope_of d ts) h = (((tt, h.0), (refl, refl, h.1)), refl)
upper_is i w (fields_of p) h = ((con_levels i (name i w) p refl h, refl), con_tokens (name i w) p)

pub typedef_ok : AllRows s.Typedef (rows s.Typedef)
typedef_ok = (λ k i w xs vs p g. (xs, (tt, refl), refl, g))
    ▸ (λ k i w xs vs p (ys, m, e, g). (ys, ((tt, m.0), (refl, refl, m.1)), ap (λ v. lx t.Lident w ∷ v) e, g))
    ▸ (λ k i w xs vs p (ys, m, e, g). (ys, (m.0, (refl, m.1)), begins t.LParen w xs ((form_list vs.0 ++ (mark t.RParen ∷ [])) ++ ys) p e, g))
    ▸ (λ k i w xs vs p (ys, m, e, g). (let r = upper_is i w vs.0 m in (ys, r.0, ap (λ v. lx t.Uident w ∷ v) e ∙ ap (λ v. v ++ ys) (sym r.1), subst (λ v. Good false k (past i v) ys vs.1) (sym r.1) g)))
    ▸ (λ k i w xs vs p (ys, m, e, (zs, n, d, g)). (zs, (con_levels (i + 1) vs.0 vs.1.0 m.0 n, refl), begins t.Bar w xs ((constructor_list (new_constructor vs.0 vs.1.0 ∷ vs.1.0.constructors) ++ algebraic_tail vs.1.0.others) ++ zs) p (e ∙ ap (λ v. lx t.Uident vs.0.text ∷ v) d ∙ ap (λ v. v ++ zs) (sym (con_tokens vs.0 vs.1.0))), subst (λ v. Good false k (past (i + 1) v) zs vs.1.1) (sym (con_tokens vs.0 vs.1.0)) g))
    ▸ (λ k i w xs vs p (ys, m, e, (zs, n, d, g)). (zs, (refl, refl, m, n), begins t.LBrace w xs ((write_field vs.0 ++ write_record_rest vs.1.0) ++ zs) p (two_tokens (write_field vs.0) (write_record_rest vs.1.0) xs ys zs e d), subst (λ j. Good false k j zs vs.1.1) (sym (past-append (write_field vs.0) (write_record_rest vs.1.0) (i + 1))) g))
    ▸ tt

-- fields of a record
pub record_field_ok : AllRows s.RecordField (rows s.RecordField)
record_field_ok = (λ k i w xs vs p (ys, m, e, (zs, n, d, g)). (zs, (tt, n.0, (refl, tt), n.1), ap (λ v. lx t.Lident w ∷ v) (marked_tokens t.Colon vs.0.text xs ys (write_form vs.1.0 ++ zs) e m.1 d), g), tt)

next_is : (i : ℕ) (ps : List ParamGroup) (semi : Bool) (as_ : List Algebraic) → IsNextOf (i + 1) ps semi as_ → IsRestOf i ps semi as_ × (write_rest_of ps semi as_ ≡ mark t.Semi ∷ write_next_of ps semi as_)
next_is i [] true as_ h = ((tt, tt, h.1), refl)
next_is i [] false as_ h = absurd (no_false h.0)
next_is i (p ∷ ps) semi as_ h = (((h.0.0, h.0.1, h.1.0), (h.0.2, h.0.3, h.1.1), rw past-append h.1.2), ap (λ v. mark t.Semi ∷ v) (append_assoc (write_field p) (field_tail ps) (semicolon_after semi ++ (mark t.RBrace ∷ algebraic_tail as_))))

pub record_rest_ok : AllRows s.RecordRest (rows s.RecordRest)
record_rest_ok = (λ k i w xs vs p (ys, n, e, g). (ys, (tt, tt, n), begins t.RBrace w xs (algebraic_tail vs.0 ++ ys) p e, g))
    ▸ (λ k i w xs vs p (ys, m, e, g). (let r = next_is i vs.0.fields vs.0.semi vs.0.others m in (ys, r.0, begins t.Semi w xs (write_record_next vs.0 ++ ys) p e ∙ ap (λ v. v ++ ys) (sym r.1), subst (λ v. Good false k (past i v) ys vs.1) (sym r.1) g)))
    ▸ tt

pub record_next_ok : AllRows s.RecordNext (rows s.RecordNext)
record_next_ok = (λ k i w xs vs p (ys, n, e, g). (ys, (refl, n), begins t.RBrace w xs (algebraic_tail vs.0 ++ ys) p e, g))
    ▸ extend_ok s.RecordNext s.RecordField (s.RecordRest ∷ []) (λ v vs. next_field v vs.0) (rows s.RecordField) (λ k i xs v vs (ys, m, e, (zs, n, d, g)). (zs, (m, n), two_tokens (write_field v) (write_record_rest vs.0) xs ys zs e d, subst (λ j. Good false k j zs vs.1) (sym (past-append (write_field v) (write_record_rest vs.0) i)) g)) record_field_ok

pub algs_ok : AllRows s.Algs (rows s.Algs)
algs_ok = (λ k i w xs vs p (ys, m, e, (zs, n, d, g)). (zs, alg_levels (i + 1) vs.0 vs.1.0 m.0 n, begins t.WithWord w xs ((write_algebraic (new_algebraic vs.0 vs.1.0.vars vs.1.0.con) ++ algebraic_tail vs.1.0.con.others) ++ zs) p (e ∙ ap (λ v. lx t.Lident vs.0.text ∷ v) d ∙ ap (λ v. v ++ zs) (sym (alg_tokens vs.0 vs.1.0))), subst (λ v. Good false k (past (i + 1) v) zs vs.1.1) (sym (alg_tokens vs.0 vs.1.0)) g), tt)

-- a parameter, or fields of one type
pub param_is : (i : ℕ) (q : ParamPart) → IsPparen (i + 1) q → IsTypedParam (param i q).names (param i q).of_type × PlacedTyped i (param i q).names (param i q).of_type × (write_param (param i q) ≡ mark t.LParen ∷ write_pparen q)
param_is i (param_names [] f) h = elim h.0 [ ]
param_is i (param_names (n ∷ ns) f) h = (h.2.0, (h.1, h.2.1), refl)
param_is i (param_types fs) h = ((tt, h.0), (refl, h.1), refl)

pub param_ok : AllRows s.Param (rows s.Param)
param_ok = (λ k i w xs vs p (ys, m, e, g). (let r = param_is i vs.0 m in (ys, (r.0, r.1), begins t.LParen w xs (write_pparen vs.0 ++ ys) p e ∙ ap (λ v. v ++ ys) (sym r.2), subst (λ v. Good false k (past i v) ys vs.1) (sym r.2) g)))
    ▸ extend_ok s.Param s.Atype [] (λ v vs. record { names = []; of_type = v }) (rows s.Atype) (λ k i xs v vs (ys, m, e, g). (ys, ((m.0, m.1), m.2), e, g)) atype_ok

pub fields_ok : AllRows s.Fields (rows s.Fields)
fields_ok = (λ k i w xs vs p (ys, m, e, (zs, n, d, g)). (let l = con_levels (i + 1) vs.0 vs.1.0 m.0 n in (zs, (tt, tt, (l.1, l.2, l.3)), begins t.Bar w xs ((constructor_list (new_constructor vs.0 vs.1.0 ∷ vs.1.0.constructors) ++ algebraic_tail vs.1.0.others) ++ zs) p (e ∙ ap (λ v. lx t.Uident vs.0.text ∷ v) d ∙ ap (λ v. v ++ zs) (sym (con_tokens vs.0 vs.1.0))), subst (λ v. Good false k (past (i + 1) v) zs vs.1.1) (sym (con_tokens vs.0 vs.1.0)) g)))
    ▸ (λ k i w xs vs p (ys, m, e, (zs, n, d, g)). (zs, (tt, tt, (tt, tt, alg_levels (i + 1) vs.0 vs.1.0 m.0 n)), begins t.WithWord w xs ((write_algebraic (new_algebraic vs.0 vs.1.0.vars vs.1.0.con) ++ algebraic_tail vs.1.0.con.others) ++ zs) p (e ∙ ap (λ v. lx t.Lident vs.0.text ∷ v) d ∙ ap (λ v. v ++ zs) (sym (alg_tokens vs.0 vs.1.0))), subst (λ v. Good false k (past (i + 1) v) zs vs.1.1) (sym (alg_tokens vs.0 vs.1.0)) g))
    ▸ extend_ok s.Fields s.Param (s.Fields ∷ []) (λ v vs. record { fields = v ∷ vs.0.fields; constructors = vs.0.constructors; others = vs.0.others }) (rows s.Param)
    (λ k i xs v vs (ys, m, e, (zs, n, d, g)). (zs, ((m.0, n.0), (m.1, n.1), rw past-append n.2), e ∙ ap (λ u. write_param v ++ u) d ∙ list_tokens (write_param v) (param_row vs.0.fields) (constructor_tail vs.0.constructors ++ algebraic_tail vs.0.others) zs, subst (λ j. Good false k j zs vs.1) (sym (list_past (write_param v) (param_row vs.0.fields) (constructor_tail vs.0.constructors ++ algebraic_tail vs.0.others) i)) g)) param_ok

pub upper_ok : AllRows s.Upper (rows s.Upper)
upper_ok = (λ k i w xs vs p (ys, m, e, (zs, n, d, g)). (zs, (n.0, n.1), begins t.Dot w xs (((scoped vs.0.scopes ++ (lx t.Lident vs.0.last ∷ [])) ++ form_row vs.1.0) ++ zs) p (two_tokens (scoped vs.0.scopes ++ (lx t.Lident vs.0.last ∷ [])) (form_row vs.1.0) xs ys zs e d), subst (λ j. Good false k j zs vs.1.1) (sym (past-append (scoped vs.0.scopes ++ (lx t.Lident vs.0.last ∷ [])) (form_row vs.1.0) (i + 1))) g))
    ▸ extend_ok s.Upper s.Fields [] (λ v vs. fields_of v) (rows s.Fields) (λ k i xs v vs (ys, n, e, g). (ys, n, e, g)) fields_ok

pub algvars_ok : AllRows s.Algvars (rows s.Algvars)
algvars_ok = (λ k i w xs vs p (ys, n, e, g). (ys, ((refl, n.0), n.1), ap (λ v. lx t.TyVar w ∷ v) e, g))
    ▸ (λ k i w xs vs p (ys, n, e, g). (ys, (tt, n), begins t.Equal w xs (write_con vs.0 ++ ys) p e, g))
    ▸ tt

pub con_ok : AllRows s.Con (rows s.Con)
con_ok = (λ k i w xs vs p (ys, n, e, g). (ys, (con_levels i (name i w) vs.0 refl n, refl), ap (λ v. lx t.Uident w ∷ v) e ∙ ap (λ v. v ++ ys) (sym (con_tokens (name i w) vs.0)), subst (λ v. Good false k (past i v) ys vs.1) (sym (con_tokens (name i w) vs.0)) g))
    ▸ (λ k i w xs vs p (ys, m, e, (zs, n, d, g)). (zs, (con_levels (i + 1) vs.0 vs.1.0 m.0 n, refl), begins t.Bar w xs ((constructor_list (new_constructor vs.0 vs.1.0 ∷ vs.1.0.constructors) ++ algebraic_tail vs.1.0.others) ++ zs) p (e ∙ ap (λ v. lx t.Uident vs.0.text ∷ v) d ∙ ap (λ v. v ++ zs) (sym (con_tokens vs.0 vs.1.0))), subst (λ v. Good false k (past (i + 1) v) zs vs.1.1) (sym (con_tokens vs.0 vs.1.0)) g))
    ▸ (λ k i w xs vs p (ys, m, e, (zs, n, d, g)). (zs, (refl, refl, m, n), begins t.LBrace w xs ((write_field vs.0 ++ write_record_rest vs.1.0) ++ zs) p (two_tokens (write_field vs.0) (write_record_rest vs.1.0) xs ys zs e d), subst (λ j. Good false k j zs vs.1.1) (sym (past-append (write_field vs.0) (write_record_rest vs.1.0) (i + 1))) g))
    ▸ tt

-- names
pub symbol_is : (b : Bool) (o : OperatorToken) → IsOwn (own_op b o) → IsSymbolName (own_op b o)
symbol_is false o h = h
symbol_is true o h = h

pub op_ok : AllRows s.Op (rows s.Op)
op_ok = (λ k i w xs vs p g. (xs, (refl, (refl, tt)), refl, g))
    ▸ (λ k i w xs vs p g. (xs, (refl, (refl, tt)), ap (λ v. lx t.StarName v ∷ xs) p, g))
    ▸ (λ k i w xs vs p (ys, q, e, g). (ys, (refl, (refl, symbol_is vs.0.prefix vs.0.op (op_own vs.0.prefix vs.0.op (q.1, q.2)))), ap (λ v. lx t.LParen v ∷ xs) p ∙ ap (λ v. mark t.LParen ∷ v) e ∙ ap (λ v. v ++ ys) (sym (op_writes vs.0.prefix vs.0.op)), subst (λ v. Good false k (past i v) ys vs.1) (sym (op_writes vs.0.prefix vs.0.op)) g))
    ▸ tt

pub id_ok : AllRows s.Ident (rows s.Ident)
id_ok = (λ k i w xs vs p g. (xs, (refl, (refl, tt)), refl, g), (λ k i w xs vs p g. (xs, (refl, (refl, tt)), refl, g), tt))

pub qop_ok : AllRows s.Qop (rows s.Qop)
qop_ok = (λ k i w xs vs p (ys, m, e, (zs, n, d, g)). (zs, (refl, n.1), ap (λ v. lx t.Uident w ∷ v) (marked_tokens t.Dot vs.0.text xs ys (write_called vs.1.0 ++ zs) e m.1 d), g))
    ▸ extend_ok s.Qop s.Op [] (λ v vs. v) (rows s.Op) (λ k i xs v vs (ys, m, e, g). (ys, (m.0, m.1.1), e, g)) op_ok

pub prop_is : (i : ℕ) (w : Word) (c : Option Called) → IsQids (i + 1) c → IsPropAt i (prop_called i w c) × (write_called (prop_called i w c) ≡ lx t.Uident w ∷ write_qids c)
prop_is i w None h = ((refl, tt), refl)
prop_is i w (Some c) h = ((refl, h.1), refl)

pub qid_ok : AllRows s.Qid (rows s.Qid)
qid_ok = (λ k i w xs vs p g. (xs, (refl, tt), refl, g))
    ▸ (λ k i w xs vs p (ys, m, e, g). (let r = prop_is i w vs.0 m in (ys, r.0, ap (λ v. lx t.Uident w ∷ v) e ∙ ap (λ v. v ++ ys) (sym r.1), subst (λ v. Good false k (past i v) ys vs.1) (sym r.1) g)))
    ▸ tt

pub qids_ok : AllRows s.Qids (rows s.Qids)
qids_ok = (λ k i w xs vs p (ys, m, e, g). (ys, m, begins t.Dot w xs (write_called vs.0 ++ ys) p e, g), tt)

pub axioms_ok : AllRows s.Axioms (rows s.Axioms)
axioms_ok = (λ k i w xs vs p g. (xs, tt, ap (λ v. lx t.Dot v ∷ xs) p, g), extend_ok s.Axioms s.Qid [] (λ v vs. Some v) (rows s.Qid) (λ k i xs v vs (ys, m, e, g). (ys, m, e, g)) qid_ok)

-- parameters
pub params_ok : AllRows s.Params (rows s.Params)
params_ok = extend_ok s.Params s.Param (s.Params ∷ []) (λ v vs. v ∷ vs.0) (rows s.Param)
    (λ k i xs v vs (ys, m, e, (zs, n, d, g)). (zs, ((m.0, n.0), (m.1, n.1)), two_tokens (write_param v) (param_row vs.0) xs ys zs e d, subst (λ j. Good false k j zs vs.1) (sym (past-append (write_param v) (param_row vs.0) i)) g)) param_ok

pub paren_is : (i : ℕ) (w : Word) (q : NamePart) → IsPname (i + 1) q → IsPparen i (after_paren i w q) × (write_pparen (after_paren i w q) ≡ lx t.Lident w ∷ write_pname q)
paren_is i w (name_names ns f) h = ((tt, (refl, h.0), h.1), refl)
paren_is i w (name_types ts fs) h = ((((tt, h.0), h.2.0), ((refl, refl, h.1), h.2.1)), ap (λ v. lx t.Lident w ∷ v) (append_assoc (form_row ts) (form_tail fs) (mark t.RParen ∷ [])))

pub name_is : (i : ℕ) (w : Word) (q : NamePart) → IsPname (i + 1) q → IsPname i (name_before i w q) × (write_pname (name_before i w q) ≡ lx t.Lident w ∷ write_pname q)
name_is i w (name_names ns f) h = (((refl, h.0), h.1), refl)
name_is i w (name_types ts fs) h = (((tt, (tt, tt), h.0), ((refl, refl, tt), h.1), h.2), refl)

pub pparen_ok : AllRows s.Pparen (rows s.Pparen)
pparen_ok = (λ k i w xs vs p (ys, m, e, g). (let r = paren_is i w vs.0 m in (ys, r.0, ap (λ v. lx t.Lident w ∷ v) e ∙ ap (λ v. v ++ ys) (sym r.1), subst (λ v. Good false k (past i v) ys vs.1) (sym r.1) g)))
    ▸ extend_ok s.Pparen s.Ttuple [] (λ v vs. param_types v) (rows s.Ttuple) (λ k i xs v vs (ys, m, e, g). (ys, m, e, g)) ttuple_ok

pub pname_ok : AllRows s.Pname (rows s.Pname)
pname_ok = append_ok s.Pname pname_args (extend s.Pname s.Tmore [] (λ v vs. name_types no_forms v) tmore_rows) (
  λ k i w xs vs p (ys, m, e, (zs, n, d, g)). (zs, (tt, m), begins t.Colon w xs ((write_form vs.0 ++ (mark t.RParen ∷ [])) ++ zs) p (two_tokens (write_form vs.0) (mark t.RParen ∷ []) xs ys zs e (d ∙ ap (λ v. lx t.RParen v ∷ zs) n.1)), subst (λ j. Good false k j zs vs.1.1) (sym (past-append (write_form vs.0) (mark t.RParen ∷ []) (i + 1))) g),
  (
    λ k i w xs vs p (ys, m, e, g). (let r = name_is i w vs.0 m in (ys, r.0, ap (λ v. lx t.Lident w ∷ v) e ∙ ap (λ v. v ++ ys) (sym r.1), subst (λ v. Good false k (past i v) ys vs.1) (sym r.1) g)),
    extend_ok s.Pname s.Atype (s.Targs ∷ s.Tmore ∷ []) (λ v vs. name_types (more_forms v vs.0) vs.1.0) (rows s.Atype)
        (λ k i xs v vs (y1, m, e1, (y2, n, e2, (zs, o, e3, g))). (zs, ((m.0, m.1, n.0), (m.2, n.1), rw past-append o), e1 ∙ ap (λ u. write_form v ++ u) (e2 ∙ ap (λ u. form_row vs.0 ++ u) e3) ∙ sym (append_assoc (write_form v) (form_row vs.0) ((form_tail vs.1.0 ++ (mark t.RParen ∷ [])) ++ zs)) ∙ sym (append_assoc (write_form v ++ form_row vs.0) (form_tail vs.1.0 ++ (mark t.RParen ∷ [])) zs), subst (λ j. Good false k j zs vs.1.1) (sym (three_past (write_form v) (form_row vs.0) (form_tail vs.1.0 ++ (mark t.RParen ∷ [])) i)) g)) atype_ok,
  ),
)
    (extend_ok s.Pname s.Tmore [] (λ v vs. name_types no_forms v) (rows s.Tmore) (λ k i xs v vs (ys, m, e, g). (ys, (tt, tt, m), e, g)) tmore_ok)

-- definitions and members
pub body_ok : AllRows s.Body (rows s.Body)
body_ok = (λ k i w xs vs p (ys, q, e, (zs, n, d, g)). (zs, ((q.0, n.0), q.1, n.1), begins t.Equal w xs ((write vs.0 ++ other_members vs.1.0) ++ zs) p (two_tokens (write vs.0) (other_members vs.1.0) xs ys zs e d), subst (λ j. Good false k j zs vs.1.1) (sym (past-append (write vs.0) (other_members vs.1.0) (i + 1))) g), tt)

pub value_ok : AllRows s.Value (rows s.Value)
value_ok = (λ k i w xs vs p (ys, q, e, g). (ys, (q.0, q.1), begins t.Equal w xs (write vs.0 ++ ys) p e, g), tt)

pub member_ok : AllRows s.Member (rows s.Member)
member_ok = (λ k i w xs vs p (ys, q, e, (zs, n, d, g)). (zs, (tt, tt, (q.0, q.1, n.0, n.1)), begins t.Equal w xs ((write vs.0 ++ other_members vs.1.0) ++ zs) p (two_tokens (write vs.0) (other_members vs.1.0) xs ys zs e d), subst (λ j. Good false k j zs vs.1.1) (sym (past-append (write vs.0) (other_members vs.1.0) (i + 1))) g))
    ▸ (λ k i w xs vs p (y1, m, e1, (y2, n, e2, (y3, q, e3, (zs, o, e4, g)))). (
      zs,
      (m.0, m.1, (q.0, q.1, o.0, o.1)),
      begins t.Colon w xs ((write_form vs.0 ++ (mark t.Equal ∷ (write vs.1.1.0 ++ other_members vs.1.1.1.0))) ++ zs) p (two_tokens (write_form vs.0) (mark t.Equal ∷ (write vs.1.1.0 ++ other_members vs.1.1.1.0)) xs y1 zs e1 (marked_tokens t.Equal vs.1.0.text y1 y2 ((write vs.1.1.0 ++ other_members vs.1.1.1.0) ++ zs) e2 n.1 (two_tokens (write vs.1.1.0) (other_members vs.1.1.1.0) y2 y3 zs e3 e4))),
      subst (λ j. Good false k j zs vs.1.1.1.1) (sym (past-append (write_form vs.0) (mark t.Equal ∷ (write vs.1.1.0 ++ other_members vs.1.1.1.0)) (i + 1) ∙ past-append (write vs.1.1.0) (other_members vs.1.1.1.0) (past (i + 1) (write_form vs.0) + 1))) g,
    ))
    ▸ tt

pub members_ok : AllRows s.Members (rows s.Members)
members_ok = (λ k i w xs vs p (y1, m, e1, (y2, n, e2, (zs, o, e3, g))). (
  zs,
  (((m.1, n.0, o.0, o.2.0), o.2.2), ((m.0, n.1, o.1, o.2.1), subst (λ j. PlacedMembers j vs.1.1.0.others) (sym (member_past (write_called vs.0) (param_row vs.1.0) (type_part vs.1.1.0.result) (write vs.1.1.0.body) (mark t.Equal) (i + 1))) o.2.3)),
  begins t.WithWord w xs ((write_member (new_member vs.0 vs.1.0 vs.1.1.0) ++ other_members vs.1.1.0.others) ++ zs) p (e1 ∙ ap (λ v. write_called vs.0 ++ v) (two_tokens (param_row vs.1.0) (write_member_part vs.1.1.0) y1 y2 zs e2 e3) ∙ sym (append_assoc (write_called vs.0) (param_row vs.1.0 ++ write_member_part vs.1.1.0) zs) ∙ ap (λ v. v ++ zs) (member_row (write_called vs.0) (param_row vs.1.0) (type_part vs.1.1.0.result) (write vs.1.1.0.body) (other_members vs.1.1.0.others) (mark t.Equal))),
  subst (λ v. Good false k (past (i + 1) v) zs vs.1.1.1) (member_row (write_called vs.0) (param_row vs.1.0) (type_part vs.1.1.0.result) (write vs.1.1.0.body) (other_members vs.1.1.0.others) (mark t.Equal)) (subst (λ j. Good false k j zs vs.1.1.1) (sym (three_row (write_called vs.0) (param_row vs.1.0) (write_member_part vs.1.1.0) (i + 1))) g),
))
    ▸ tt
