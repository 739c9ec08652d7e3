-- The tokens of names, parameters, constructors and links are read as them.
use Rattle.grammar.proofs.reading.Common.{◌≡◌, ℕ, ◌+◌, Bool, true, false, cond, List, [], ◌∷◌, ◌++◌, Option, Some, None, option_map, refl, sym, ap, subst, append_assoc, append-nil, same, same_true, Terminal, Symbol, Name, Lexeme, Word, at, lx, mark, name, Called, SyntaxForm, SyntaxForms, IsForm, IsHead, IsPlaced, Own, aliased, called, composed, enclosed, fielded_form, form_list, infix_op, lower, more_forms, no_forms, past, prefix_op, scoped, star, type_variable, type_forms, upper, variable, wild, write_called, write_form, write_own, HasSome, PlacedNames, bar_before, name_row, Algebraic, Constructor, ParamGroup, algebraic_tail, constructor_list, constructor_tail, param_row, path_from, renamed, typed_names, variable_row, write_param, AreAlgebraic, AreConstructors, AreParams, IsNewProp, IsNewSymbol, IsProp, IsSymbolName, IsTypedParam, PlacedAlgebraics, PlacedConstructors, PlacedParams, PlacedRenamed, PlacedTyped, ConPart, NamePart, after_paren, lone, name_names, name_types, param_types, ReadingRow, Vals, row, opname_row, fields_own, pparen_own, qop_own, rows, find, read, with_blank, no_false, IsOneName, AreFields, IsTypeBody, PlacedFields, PlacedTypeBody, record_field, next_field, record_next_own, write_field, field_tail, semicolon_after, write_type_body, ◌∙◌}
use Rattle.tokens_why.specs.declared.terminal.Terminal.TheVariants as t
use Rattle.grammar.specs.declared.symbols.Symbol.TheVariants as s
use Rattle.grammar.proofs.reading.Reading.{Extends, Reads, Stops, extended, extended_at, passed, past-append, unmapped}
use Rattle.grammar.proofs.reading.FormsRead.{reads_qlid, reads_tuple, reads_type}
use Rattle.grammar.proofs.reading.Operators.{reads_by}
use Rattle.grammar.proofs.reading.TermRowsRead.{opname_found}
use Rattle.grammar.proofs.reading.Operands.{both_right, past_op, reads_mark}
use Rattle.grammar.proofs.reading.DeclTokens.{alg_whole, fields_whole, three_row}

-- names
pub op_named : (qs : List Word) (o : Own) (zs : List Lexeme) (i : ℕ) (k : List Symbol) (vs : Vals k) → qs ≡ [] → IsSymbolName o → Reads k zs (past i (scoped qs ++ write_own o)) vs → Reads (s.Op ∷ k) ((scoped qs ++ write_own o) ++ zs) i (called i qs o, vs)
op_named [] (lower w) zs i k vs e l h = rw h refl
op_named [] (upper w) zs i k vs e l h = elim l [ ]
op_named [] star zs i k vs e l h = rw h refl
op_named [] (infix_op o w) zs i k vs e l h = rw (reads_by s.Opname (lx o w) (opname_row o) (mark t.RParen ∷ zs) (i + 1) k (false, vs) (opname_found o l.0) (rw h refl)) refl
op_named [] (prefix_op o w) zs i k vs e l h = rw (reads_by s.Opname (lx o w) (opname_row o) (mark t.Wild ∷ mark t.RParen ∷ zs) (i + 1) k (true, vs) (opname_found o l.0) (rw h refl)) refl
op_named (q ∷ qs) o zs i k vs e l h = cc

pub reads_op : (c : Called) (zs : List Lexeme) (i : ℕ) (k : List Symbol) (vs : Vals k) → IsNewSymbol c → c.at ≡ i → Reads k zs (past i (write_called c)) vs → Reads (s.Op ∷ k) (write_called c ++ zs) i (c, vs)
reads_op c zs i k vs l a h = rw a (op_named c.scopes c.own zs i k vs l.0 l.1 h)

qop_apart : (x : Terminal) (r : ReadingRow s.Op) → find (rows s.Op) x ≡ Some r → find qop_own x ≡ None
qop_apart t.Uident r h = cc
qop_apart _ r h = refl

qop_extend : Extends s.Qop s.Op [] (λ v vs. v) qop_own
qop_extend = record { is = refl; due = refl; apart = qop_apart }

pub qop_named : (qs : List Word) (o : Own) (zs : List Lexeme) (i : ℕ) (k : List Symbol) (vs : Vals k) → IsSymbolName o → Reads k zs (past i (scoped qs ++ write_own o)) vs → Reads (s.Qop ∷ k) ((scoped qs ++ write_own o) ++ zs) i (called i qs o, vs)
qop_named [] o zs i k vs l h = extended s.Qop s.Op [] (λ v vs. v) qop_own qop_extend (write_own o ++ zs) i k (called i [] o) vs (op_named [] o zs i k vs refl l h)
qop_named (q ∷ qs) o zs i k vs l h = rw (qop_named qs o zs (i + 1 + 1) k vs l h) refl

pub reads_qop : (c : Called) (zs : List Lexeme) (i : ℕ) (k : List Symbol) (vs : Vals k) → IsSymbolName c.own → c.at ≡ i → Reads k zs (past i (write_called c)) vs → Reads (s.Qop ∷ k) (write_called c ++ zs) i (c, vs)
reads_qop c zs i k vs l a h = rw a (qop_named c.scopes c.own zs i k vs l h)

pub id_named : (qs : List Word) (o : Own) (zs : List Lexeme) (i : ℕ) (k : List Symbol) (vs : Vals k) → qs ≡ [] → IsProp o → Reads k zs (past i (scoped qs ++ write_own o)) vs → Reads (s.Ident ∷ k) ((scoped qs ++ write_own o) ++ zs) i (called i qs o, vs)
id_named [] (lower w) zs i k vs e l h = rw h refl
id_named [] (upper w) zs i k vs e l h = rw h refl
id_named [] _ zs i k vs e l h = elim l [ ]
id_named (q ∷ qs) o zs i k vs e l h = cc

pub reads_id : (c : Called) (zs : List Lexeme) (i : ℕ) (k : List Symbol) (vs : Vals k) → IsNewProp c → c.at ≡ i → Reads k zs (past i (write_called c)) vs → Reads (s.Ident ∷ k) (write_called c ++ zs) i (c, vs)
reads_id c zs i k vs l a h = rw a (id_named c.scopes c.own zs i k vs l.0 l.1 h)

pub qid_named : (qs : List Word) (o : Own) (zs : List Lexeme) (i : ℕ) (k : List Symbol) (vs : Vals k) → IsProp o → Stops s.Qids zs → Reads k zs (past i (scoped qs ++ write_own o)) vs → Reads (s.Qid ∷ k) ((scoped qs ++ write_own o) ++ zs) i (called i qs o, vs)
qid_named [] (lower w) zs i k vs l n h = rw h refl
qid_named [] (upper w) zs i k vs l n h = rw (passed s.Qids None k zs (i + 1) vs refl refl n h) refl
qid_named [] _ zs i k vs l n h = elim l [ ]
qid_named (q ∷ qs) o zs i k vs l n h = rw (qid_named qs o zs (i + 1 + 1) k vs l n h) refl

pub reads_qid : (c : Called) (zs : List Lexeme) (i : ℕ) (k : List Symbol) (vs : Vals k) → IsProp c.own → c.at ≡ i → Stops s.Qids zs → Reads k zs (past i (write_called c)) vs → Reads (s.Qid ∷ k) (write_called c ++ zs) i (c, vs)
reads_qid c zs i k vs l a n h = rw a (qid_named c.scopes c.own zs i k vs l n h)

-- Types in a parameter's parentheses, the first of which may begin as a name does.
pub pname_types : (xs : List Lexeme) (i : ℕ) (k : List Symbol) (vs : SyntaxForms × (SyntaxForms × Vals k)) → Reads (s.Targs ∷ s.Tmore ∷ k) xs i vs → Reads (s.Pname ∷ k) xs i (name_types vs.0 vs.1.0, vs.1.1)
pname_types [] i k vs h = cc
pname_types (x ∷ xs) i k vs h = by_terminal x.terminal x.text h (λ us g. pname_types xs (i + 1) k us g)
  where
    by_terminal : (y : Terminal) (w : Word) → Reads (s.Targs ∷ s.Tmore ∷ k) (lx y w ∷ xs) i vs → ((us : SyntaxForms × (SyntaxForms × Vals k)) → Reads (s.Targs ∷ s.Tmore ∷ k) xs (i + 1) us → Reads (s.Pname ∷ k) xs (i + 1) (name_types us.0 us.1.0, us.1.1)) → Reads (s.Pname ∷ k) (lx y w ∷ xs) i (name_types vs.0 vs.1.0, vs.1.1)
    by_terminal t.Lident w h f = let u = unmapped (λ us. (more_forms (lone i w) us.0, us.1)) (read xs (i + 1) false (s.Targs ∷ s.Tmore ∷ k)) vs h in rw (f u.0 u.1) (ap (λ q. Some (name_types q.0 q.1.0, q.1.1)) u.2)
    by_terminal t.TyVar w h f = let u = unmapped (λ us. (more_forms (type_variable (at i) w) us.0, us.1)) (read xs (i + 1) false (s.Targs ∷ s.Tmore ∷ k)) vs h in rw u.1 (ap (λ q. Some (name_types q.0 q.1.0, q.1.1)) u.2)
    by_terminal t.Uident w h f = let u = unmapped (λ us. (more_forms (composed (at i) (called i (w ∷ us.1.0.scopes) (lower us.1.0.last)) no_forms) us.1.1.0, us.1.1.1)) (read xs (i + 1) false (s.Take t.Dot ∷ s.Qlid ∷ s.Targs ∷ s.Tmore ∷ k)) vs h in rw u.1 (ap (λ q. Some (name_types q.0 q.1.0, q.1.1)) u.2)
    by_terminal t.LParen w h f = let u = unmapped (λ us. (more_forms (enclosed (at i) us.0) us.1.0, us.1.1)) (read xs (i + 1) false (s.Ttuple ∷ s.Targs ∷ s.Tmore ∷ k)) vs h in rw u.1 (ap (λ q. Some (name_types q.0 q.1.0, q.1.1)) u.2)
    by_terminal t.RParen w h f = by_end (read xs (i + 1) false k) h
      where
        by_end : (o : Option (Vals k)) → with_blank s.Targs (s.Tmore ∷ k) (Some no_forms) (option_map {U = SyntaxForms × Vals k} (λ us. (no_forms, us)) o) ≡ Some vs → option_map {U = NamePart × Vals k} (λ us. (name_types no_forms no_forms, us)) o ≡ Some (name_types vs.0 vs.1.0, vs.1.1)
        by_end None h = cc
        by_end (Some us) h = ap (option_map {U = NamePart × Vals k} (λ q. (name_types q.0 q.1.0, q.1.1))) h
    by_terminal t.Comma w h f = by_end (read xs (i + 1) false (s.TypeOf ∷ s.Tmore ∷ k)) h
      where
        by_end : (o : Option (SyntaxForm × (SyntaxForms × Vals k))) → with_blank s.Targs (s.Tmore ∷ k) (Some no_forms) (option_map {U = SyntaxForms × Vals k} (λ us. (more_forms us.0 us.1.0, us.1.1)) o) ≡ Some vs → option_map {U = NamePart × Vals k} (λ us. (name_types no_forms (more_forms us.0 us.1.0), us.1.1)) o ≡ Some (name_types vs.0 vs.1.0, vs.1.1)
        by_end None h = cc
        by_end (Some us) h = ap (option_map {U = NamePart × Vals k} (λ q. (name_types q.0 q.1.0, q.1.1))) h
    by_terminal _ w h f = cc

pub pparen_types : (xs : List Lexeme) (i : ℕ) (k : List Symbol) (vs : SyntaxForms × Vals k) → Reads (s.Ttuple ∷ k) xs i vs → Reads (s.Pparen ∷ k) xs i (param_types vs.0, vs.1)
pparen_types [] i k vs h = cc
pparen_types (x ∷ xs) i k vs h = by_lident (same t.Lident x.terminal) refl
  where
    by_name : (w : Word) → Reads (s.Ttuple ∷ k) (lx t.Lident w ∷ xs) i vs → Reads (s.Pparen ∷ k) (lx t.Lident w ∷ xs) i (param_types vs.0, vs.1)
    by_name w h = let u = unmapped (λ us. (more_forms (composed (at i) (called i [] (lower w)) us.0) us.1.0, us.1.1)) (read xs (i + 1) false (s.Targs ∷ s.Tmore ∷ k)) vs h in rw (pname_types xs (i + 1) k u.0 u.1) (ap (λ q. Some (param_types q.0, q.1)) u.2)

    by_lident : (b : Bool) → same t.Lident x.terminal ≡ b → Reads (s.Pparen ∷ k) (x ∷ xs) i (param_types vs.0, vs.1)
    by_lident true e = subst (λ y. Reads (s.Pparen ∷ k) (lx y x.text ∷ xs) i (param_types vs.0, vs.1)) (same_true t.Lident x.terminal e) (by_name x.text (subst (λ y. Reads (s.Ttuple ∷ k) (lx y x.text ∷ xs) i vs) (sym (same_true t.Lident x.terminal e)) h))
    by_lident false e = extended_at s.Pparen s.Ttuple [] (λ v vs. param_types v) pparen_own refl refl (x ∷ xs) (λ r g. ap (λ b. cond b (Some (row s.Pparen t.Lident (s.Pname ∷ []) (λ i w vs. after_paren i w vs.0))) None) e) i k vs.0 vs.1 h

-- parameters
pub pname_names : (ns : List Name) (f : SyntaxForm) (zs : List Lexeme) (i : ℕ) (k : List Symbol) (vs : Vals k) → PlacedNames i ns → IsForm type_forms f → IsPlaced (past i (name_row ns) + 1) f → Reads k zs (past (past i (name_row ns) + 1) (write_form f ++ (mark t.RParen ∷ []))) vs → Reads (s.Pname ∷ k) (name_row ns ++ (mark t.Colon ∷ ((write_form f ++ (mark t.RParen ∷ [])) ++ zs))) i (name_names ns f, vs)
pname_names [] f zs i k vs p l q h = rw (append_assoc (write_form f) (mark t.RParen ∷ []) zs, reads_type f (mark t.RParen ∷ zs) (i + 1) (s.Take t.RParen ∷ k) (name (past (i + 1) (write_form f)) [], vs) l q refl (reads_mark t.RParen zs (past (i + 1) (write_form f)) k vs (rw past-append at h))) refl
pname_names (n ∷ ns) f zs i k vs p l q h = rw (pname_names ns f zs (i + 1) k vs p.1 l q h) (ap (λ v. Some (name_names (name v n.text ∷ ns) f, vs)) (sym p.0))

param_headed : (qs : List Word) (o : Own) (zs : List Lexeme) (i : ℕ) (k : List Symbol) (vs : Vals k) → IsHead type_forms o → Reads k zs (past i (scoped qs ++ write_own o)) vs → Reads (s.Param ∷ k) ((scoped qs ++ write_own o) ++ zs) i (record { names = []; of_type = composed (at i) (called i qs o) no_forms }, vs)
param_headed [] (lower w) zs i k vs l h = rw h refl
param_headed (q ∷ qs) (lower w) zs i k vs l h = rw (reads_qlid qs w zs (i + 1 + 1) k vs h) refl
param_headed qs _ zs i k vs l h = elim l [ ]

pub reads_param : (ns : List Name) (f : SyntaxForm) (zs : List Lexeme) (i : ℕ) (k : List Symbol) (vs : Vals k) → IsTypedParam ns f → PlacedTyped i ns f → Reads k zs (past i (typed_names ns f)) vs → Reads (s.Param ∷ k) (typed_names ns f ++ zs) i (record { names = ns; of_type = f }, vs)
reads_param (n ∷ ns) f zs i k vs l p h = rw (both_right (name_row ns) (mark t.Colon) (write_form f ++ (mark t.RParen ∷ [])) zs, pname_names ns f zs (i + 1 + 1) k vs p.0.1 l p.1 (rw past_op at h)) (ap (λ v. Some (record { names = name v n.text ∷ ns; of_type = f }, vs)) (sym p.0.0))
reads_param [] (type_variable a w) zs i k vs l p h = rw (h, p) refl
reads_param [] (composed a c no_forms) zs i k vs l p h = rw (append-nil (write_called c), p.0, p.1) (param_headed c.scopes c.own zs i k vs l.1.0 (rw append-nil at h))
reads_param [] (composed a c (more_forms g gs)) zs i k vs l p h = elim l.0 [ ]
reads_param [] (enclosed a ts) zs i k vs l p h = rw (p.0, pparen_types ((form_list ts ++ (mark t.RParen ∷ [])) ++ zs) (i + 1) k (ts, vs) (reads_tuple ts zs (i + 1) k vs l.1 p.1 h)) refl
reads_param [] (wild a) zs i k vs l p h = elim l.1 [ ]
reads_param [] (variable a m) zs i k vs l p h = elim l.1 [ ]
reads_param [] (aliased a f m) zs i k vs l p h = elim l.0 [ ]
reads_param [] (fielded_form a cs ps semi) zs i k vs l p h = elim l.1.0 [ ]

params_extend : Extends s.Params s.Param (s.Params ∷ []) (λ v vs. v ∷ vs.0) []
params_extend = record { is = refl; due = refl; apart = λ x r h. refl }

pub reads_params : (ps : List ParamGroup) (zs : List Lexeme) (i : ℕ) (k : List Symbol) (vs : Vals k) → AreParams ps → PlacedParams i ps → Stops s.Params zs → Reads k zs (past i (param_row ps)) vs → Reads (s.Params ∷ k) (param_row ps ++ zs) i (ps, vs)
reads_params [] zs i k vs l p n h = passed s.Params [] k zs i vs refl refl n h
reads_params (q ∷ ps) zs i k vs l p n h = rw (append_assoc (write_param q) (param_row ps) zs) (extended s.Params s.Param (s.Params ∷ []) (λ v vs. v ∷ vs.0) [] params_extend (write_param q ++ (param_row ps ++ zs)) i k q (ps, vs)
    (reads_param q.names q.of_type (param_row ps ++ zs) i (s.Params ∷ k) (ps, vs) l.0 p.0 (reads_params ps zs (past i (write_param q)) k vs l.1 p.1 n (rw past-append at h))))

-- type variables
pub elem_vars : (ns : List Name) (f : SyntaxForm) (zs : List Lexeme) (i : ℕ) (k : List Symbol) (vs : Vals k) → PlacedNames i ns → IsForm type_forms f → IsPlaced (past i (variable_row ns) + 1) f → Stops s.Targs zs → Reads k zs (past (past i (variable_row ns) + 1) (write_form f)) vs → Reads (s.Elvars ∷ k) (variable_row ns ++ (mark t.Equal ∷ (write_form f ++ zs))) i (record { vars = ns; type = f }, vs)
elem_vars [] f zs i k vs p l q n h = rw (reads_type f zs (i + 1) k vs l q n h) refl
elem_vars (x ∷ ns) f zs i k vs p l q n h = rw (elem_vars ns f zs (i + 1) k vs p.1 l q n h) (ap (λ v. Some (record { vars = name v x.text ∷ ns; type = f }, vs)) (sym p.0))

-- fields, constructors and algebraic types
fields_apart : (x : Terminal) (r : ReadingRow s.Param) → find (rows s.Param) x ≡ Some r → find fields_own x ≡ None
fields_apart t.Bar r h = cc
fields_apart t.WithWord r h = cc
fields_apart _ r h = refl

fields_extend : Extends s.Fields s.Param (s.Fields ∷ []) (λ v vs. record { fields = v ∷ vs.0.fields; constructors = vs.0.constructors; others = vs.0.others }) fields_own
fields_extend = record { is = refl; due = refl; apart = fields_apart }

pub reads_fields : (fs : List ParamGroup) (cs : List Constructor) (as_ : List Algebraic) (zs : List Lexeme) (i : ℕ) (k : List Symbol) (vs : Vals k) → AreParams fs → PlacedParams i fs → Reads (s.Fields ∷ k) zs (past i (param_row fs)) (record { fields = []; constructors = cs; others = as_ }, vs) → Reads (s.Fields ∷ k) (param_row fs ++ zs) i (record { fields = fs; constructors = cs; others = as_ }, vs)
reads_fields [] cs as_ zs i k vs l p h = h
reads_fields (f ∷ fs) cs as_ zs i k vs l p h = rw (append_assoc (write_param f) (param_row fs) zs) (extended s.Fields s.Param (s.Fields ∷ []) (λ v vs. record { fields = v ∷ vs.0.fields; constructors = vs.0.constructors; others = vs.0.others }) fields_own fields_extend (write_param f ++ (param_row fs ++ zs)) i k f (record { fields = fs; constructors = cs; others = as_ }, vs)
    (reads_param f.names f.of_type (param_row fs ++ zs) i (s.Fields ∷ k) (record { fields = fs; constructors = cs; others = as_ }, vs) l.0 p.0 (reads_fields fs cs as_ zs (past i (write_param f)) k vs l.1 p.1 (rw past-append at h))))

pub con_tail : (cs : List Constructor) (as_ : List Algebraic) (zs : List Lexeme) (i : ℕ) (k : List Symbol) (vs : Vals k) → AreConstructors cs → PlacedConstructors (i + 1) cs → Reads (s.Fields ∷ k) zs (past i (constructor_tail cs)) (record { fields = []; constructors = []; others = as_ }, vs) → Reads (s.Fields ∷ k) (constructor_tail cs ++ zs) i (record { fields = []; constructors = cs; others = as_ }, vs)
con_tail [] as_ zs i k vs l p h = h
con_tail (c ∷ cs) as_ zs i k vs l p h = rw (append_assoc (param_row c.fields) (constructor_tail cs) zs, reads_fields c.fields cs as_ (constructor_tail cs ++ zs) (i + 1 + 1) k vs l.0 p.1 (con_tail cs as_ zs (past (i + 1 + 1) (param_row c.fields)) k vs l.1 p.2 (rw past-append at h))) (ap (λ v. Some (record { fields = []; constructors = record { name = name v c.name.text; fields = c.fields } ∷ cs; others = as_ }, vs)) (sym p.0))

-- fields of a record
reads_field : (ns : List Name) (f : SyntaxForm) (zs : List Lexeme) (i : ℕ) (k : List Symbol) (vs : Vals k) → IsOneName ns → IsForm type_forms f → PlacedNames i ns → IsPlaced (past i (name_row ns) + 1) f → Stops s.Targs zs → Reads k zs (past (past i (name_row ns) + 1) (write_form f)) vs → Reads (s.RecordField ∷ k) (name_row ns ++ (mark t.Colon ∷ (write_form f ++ zs))) i (record { names = ns; of_type = f }, vs)
reads_field [] f zs i k vs o l p q n h = elim o [ ]
reads_field (x ∷ []) f zs i k vs o l p q n h = rw (reads_mark t.Colon (write_form f ++ zs) (i + 1) (s.TypeOf ∷ k) (f, vs) (reads_type f zs (i + 1 + 1) k vs l q n h)) (ap (λ v. Some (record_field (name v x.text) f, vs)) (sym p.0))
reads_field (x ∷ y ∷ ns) f zs i k vs o l p q n h = elim o [ ]

field_then : (p : ParamGroup) (zs : List Lexeme) (i : ℕ) (k : List Symbol) (vs : Vals k) → IsOneName p.names → IsForm type_forms p.of_type → PlacedNames i p.names → IsPlaced (past i (name_row p.names) + 1) p.of_type → Stops s.Targs zs → Reads k zs (past i (write_field p)) vs → Reads (s.RecordField ∷ k) (write_field p ++ zs) i (p, vs)
field_then p zs i k vs o l m q n h = rw (both_right (name_row p.names) (mark t.Colon) (write_form p.of_type) zs) (reads_field p.names p.of_type zs i k vs o l m q n (rw past_op at h))

rest_stop : (ps : List ParamGroup) (semi : Bool) (zs : List Lexeme) → Stops s.Targs (field_tail ps ++ (semicolon_after semi ++ (mark t.RBrace ∷ zs)))
rest_stop [] true zs = refl
rest_stop [] false zs = refl
rest_stop (p ∷ ps) semi zs = refl

next_apart : (x : Terminal) (r : ReadingRow s.RecordField) → find (rows s.RecordField) x ≡ Some r → find record_next_own x ≡ None
next_apart t.RBrace r h = cc
next_apart _ r h = refl

next_extend : Extends s.RecordNext s.RecordField (s.RecordRest ∷ []) (λ v vs. next_field v vs.0) record_next_own
next_extend = record { is = refl; due = refl; apart = next_apart }

reads_rest : (ps : List ParamGroup) (semi : Bool) (as_ : List Algebraic) (zs : List Lexeme) (i : ℕ) (k : List Symbol) (vs : Vals k) → AreFields ps → PlacedFields (i + 1) ps → Reads (s.Algs ∷ k) zs (past (past i (field_tail ps)) (semicolon_after semi) + 1) (as_, vs) → Reads (s.RecordRest ∷ k) (field_tail ps ++ (semicolon_after semi ++ (mark t.RBrace ∷ zs))) i (record { fields = ps; semi = semi; others = as_ }, vs)
reads_rest [] true as_ zs i k vs l p h = rw h refl
reads_rest [] false as_ zs i k vs l p h = rw h refl
reads_rest (q ∷ ps) semi as_ zs i k vs l p h = rw (
  append_assoc (write_field q) (field_tail ps) (semicolon_after semi ++ (mark t.RBrace ∷ zs)),
  extended s.RecordNext s.RecordField (s.RecordRest ∷ []) (λ v vs. next_field v vs.0) record_next_own next_extend (write_field q ++ (field_tail ps ++ (semicolon_after semi ++ (mark t.RBrace ∷ zs)))) (i + 1) k q (record { fields = ps; semi = semi; others = as_ }, vs)
      (field_then q (field_tail ps ++ (semicolon_after semi ++ (mark t.RBrace ∷ zs))) (i + 1) (s.RecordRest ∷ k) (record { fields = ps; semi = semi; others = as_ }, vs) l.0 l.1 p.0 p.1 (rest_stop ps semi zs)
      (reads_rest ps semi as_ zs (past (i + 1) (write_field q)) k vs l.2 p.2 (rw past-append at h))),
) refl

-- after a record's brace
pub reads_braced : (q : ParamGroup) (ps : List ParamGroup) (semi : Bool) (as_ : List Algebraic) (zs : List Lexeme) (i : ℕ) (k : List Symbol) (vs : Vals k) → AreFields (q ∷ ps) → PlacedFields i (q ∷ ps) → Reads (s.Algs ∷ k) zs (past i (write_field q ++ (field_tail ps ++ (semicolon_after semi ++ (mark t.RBrace ∷ []))))) (as_, vs) → Reads (s.RecordField ∷ s.RecordRest ∷ k) ((write_field q ++ (field_tail ps ++ (semicolon_after semi ++ (mark t.RBrace ∷ [])))) ++ zs) i (q, (record { fields = ps; semi = semi; others = as_ }, vs))
reads_braced q ps semi as_ zs i k vs l p h = rw (fields_whole (write_field q) (field_tail ps) (semicolon_after semi) zs) (field_then q (field_tail ps ++ (semicolon_after semi ++ (mark t.RBrace ∷ zs))) i (s.RecordRest ∷ k) (record { fields = ps; semi = semi; others = as_ }, vs) l.0 l.1 p.0 p.1 (rest_stop ps semi zs)
    (reads_rest ps semi as_ zs (past i (write_field q)) k vs l.2 p.2 (subst (λ j. Reads (s.Algs ∷ k) zs j (as_, vs)) (past-append (write_field q) (field_tail ps ++ (semicolon_after semi ++ (mark t.RBrace ∷ []))) i ∙ three_row (field_tail ps) (semicolon_after semi) (mark t.RBrace ∷ []) (past i (write_field q))) h)))

-- after an algebraic type's equality sign
reads_con : (bar : Bool) (cs : List Constructor) (as_ : List Algebraic) (zs : List Lexeme) (i : ℕ) (k : List Symbol) (vs : Vals k) → HasSome cs → AreConstructors cs → PlacedConstructors (past i (bar_before bar)) cs → Reads (s.Fields ∷ k) zs (past (past i (bar_before bar)) (constructor_list cs)) (record { fields = []; constructors = []; others = as_ }, vs) → Reads (s.Con ∷ k) (bar_before bar ++ (constructor_list cs ++ zs)) i (record { bar = bar; constructors = cs; fields = []; semi = false; others = as_ }, vs)
reads_con bar [] as_ zs i k vs s l p h = elim s [ ]
reads_con true (c ∷ cs) as_ zs i k vs e l p h = rw (append_assoc (param_row c.fields) (constructor_tail cs) zs, reads_fields c.fields cs as_ (constructor_tail cs ++ zs) (i + 1 + 1) k vs l.0 p.1 (con_tail cs as_ zs (past (i + 1 + 1) (param_row c.fields)) k vs l.1 p.2 (rw past-append at h))) (ap (λ v. Some (record { bar = true; constructors = record { name = name v c.name.text; fields = c.fields } ∷ cs; fields = []; semi = false; others = as_ }, vs)) (sym p.0))
reads_con false (c ∷ cs) as_ zs i k vs e l p h = rw (append_assoc (param_row c.fields) (constructor_tail cs) zs, reads_fields c.fields cs as_ (constructor_tail cs ++ zs) (i + 1) k vs l.0 p.1 (con_tail cs as_ zs (past (i + 1) (param_row c.fields)) k vs l.1 p.2 (rw past-append at h))) (ap (λ v. Some (record { bar = false; constructors = record { name = name v c.name.text; fields = c.fields } ∷ cs; fields = []; semi = false; others = as_ }, vs)) (sym p.0))

pub reads_body : (bar : Bool) (cs : List Constructor) (fs : List ParamGroup) (semi : Bool) (as_ : List Algebraic) (zs : List Lexeme) (i : ℕ) (k : List Symbol) (vs : Vals k) → IsTypeBody bar cs fs semi → PlacedTypeBody i bar cs fs → Reads (s.Fields ∷ k) zs (past i (write_type_body bar cs fs semi)) (record { fields = []; constructors = []; others = as_ }, vs) → Reads (s.Algs ∷ k) zs (past i (write_type_body bar cs fs semi)) (as_, vs) → Reads (s.Con ∷ k) (write_type_body bar cs fs semi ++ zs) i (record { bar = bar; constructors = cs; fields = fs; semi = semi; others = as_ }, vs)
reads_body bar cs [] false as_ zs i k vs l p h g = rw (append_assoc (bar_before bar) (constructor_list cs) zs) (reads_con bar cs as_ zs i k vs l.0 l.1 p (rw past-append at h))
reads_body bar cs [] true as_ zs i k vs l p h g = absurd (no_false (sym l.2))
reads_body false [] (q ∷ ps) semi as_ zs i k vs l p h g = rw (reads_braced q ps semi as_ zs (i + 1) k vs l.0 p g) refl
reads_body false (c ∷ cs) (q ∷ ps) semi as_ zs i k vs l p h g = cc
reads_body true cs (q ∷ ps) semi as_ zs i k vs l p h g = absurd (no_false (sym l.2))

pub reads_algvars : (ns : List Name) (c : ConPart) (zs : List Lexeme) (i : ℕ) (k : List Symbol) (vs : Vals k) → PlacedNames i ns → Reads (s.Con ∷ k) zs (past i (variable_row ns) + 1) (c, vs) → Reads (s.Algvars ∷ k) (variable_row ns ++ (mark t.Equal ∷ zs)) i (record { vars = ns; con = c }, vs)
reads_algvars [] c zs i k vs p h = rw h refl
reads_algvars (n ∷ ns) c zs i k vs p h = rw (reads_algvars ns c zs (i + 1) k vs p.1 h) (ap (λ v. Some (record { vars = name v n.text ∷ ns; con = c }, vs)) (sym p.0))

abbrev renamed_first : Algebraic → List Algebraic → ℕ → List Algebraic
renamed_first a as_ i = record { name = name i a.name.text; vars = a.vars; bar = a.bar; constructors = a.constructors; fields = a.fields; semi = a.semi } ∷ as_

-- one type after `with` and its name, where what comes after it is read both ways
pub alg_vars : (a : Algebraic) (as_ : List Algebraic) (zs : List Lexeme) (i : ℕ) (k : List Symbol) (vs : Vals k) → IsTypeBody a.bar a.constructors a.fields a.semi → PlacedNames i a.vars → PlacedTypeBody (past i (variable_row a.vars) + 1) a.bar a.constructors a.fields → Reads (s.Fields ∷ k) zs (past (past i (variable_row a.vars) + 1) (write_type_body a.bar a.constructors a.fields a.semi)) (record { fields = []; constructors = []; others = as_ }, vs) × Reads (s.Algs ∷ k) zs (past (past i (variable_row a.vars) + 1) (write_type_body a.bar a.constructors a.fields a.semi)) (as_, vs) → Reads (s.Algvars ∷ k) (variable_row a.vars ++ (mark t.Equal ∷ (write_type_body a.bar a.constructors a.fields a.semi ++ zs))) i (record { vars = a.vars; con = record { bar = a.bar; constructors = a.constructors; fields = a.fields; semi = a.semi; others = as_ } }, vs)
alg_vars a as_ zs i k vs l p q r = reads_algvars a.vars (record { bar = a.bar; constructors = a.constructors; fields = a.fields; semi = a.semi; others = as_ }) (write_type_body a.bar a.constructors a.fields a.semi ++ zs) i k vs p
    (reads_body a.bar a.constructors a.fields a.semi as_ zs (past i (variable_row a.vars) + 1) k vs l q r.0 r.1)

-- other types after one by its constructors, and after a record
pub others_read : (as_ : List Algebraic) (zs : List Lexeme) (i : ℕ) (k : List Symbol) (vs : Vals k) → AreAlgebraic as_ → PlacedAlgebraics (i + 1) as_ → Stops s.Fields zs → Stops s.Algs zs → Reads k zs (past i (algebraic_tail as_)) vs → Reads (s.Fields ∷ k) (algebraic_tail as_ ++ zs) i (record { fields = []; constructors = []; others = as_ }, vs) × Reads (s.Algs ∷ k) (algebraic_tail as_ ++ zs) i (as_, vs)
others_read [] zs i k vs l p n m h = (passed s.Fields (record { fields = []; constructors = []; others = [] }) k zs i vs refl refl n h, passed s.Algs [] k zs i vs refl refl m h)
others_read (a ∷ as_) zs i k vs l p n m h = let r = others_read as_ zs (past (past (i + 1 + 1) (variable_row a.vars) + 1) (write_type_body a.bar a.constructors a.fields a.semi)) k vs l.1 (rw past-append at p.1) n m (rw (past-append, past-append) at h) in
    let b = alg_vars a as_ (algebraic_tail as_ ++ zs) (i + 1 + 1) k vs l.0 p.0.1 p.0.2 r in (
      rw (alg_whole (variable_row a.vars) (write_type_body a.bar a.constructors a.fields a.semi) (algebraic_tail as_) zs, b) (ap (λ v. Some (record { fields = []; constructors = []; others = renamed_first a as_ v }, vs)) (sym p.0.0)),
      rw (alg_whole (variable_row a.vars) (write_type_body a.bar a.constructors a.fields a.semi) (algebraic_tail as_) zs, b) (ap (λ v. Some (renamed_first a as_ v, vs)) (sym p.0.0)),
    )

-- paths and new names
pub reads_path : (w : Word) (ws : List Word) (zs : List Lexeme) (i : ℕ) (k : List Symbol) (vs : Vals k) → Reads k zs (past i (path_from w ws)) vs → Reads (s.Path ∷ k) (path_from w ws ++ zs) i (record { at = i; parts = w ∷ ws }, vs)
reads_path w [] zs i k vs h = rw h refl
reads_path w (v ∷ ws) zs i k vs h = rw (reads_path v ws zs (i + 1 + 1) k vs h) refl

pub reads_renamed : (n : Option Name) (zs : List Lexeme) (i : ℕ) (k : List Symbol) (vs : Vals k) → PlacedRenamed i n → Stops s.Renamed zs → Reads k zs (past i (renamed n)) vs → Reads (s.Renamed ∷ k) (renamed n ++ zs) i (n, vs)
reads_renamed None zs i k vs p m h = passed s.Renamed None k zs i vs refl refl m h
reads_renamed (Some n) zs i k vs p m h = rw h (ap (λ v. Some (Some (name v n.text), vs)) (sym p))
