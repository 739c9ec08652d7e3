-- What is read has the tokens that it is read from.
use Rattle.grammar.proofs.reading.Common.{◌≡◌, ℕ, ◌+◌, Bool, true, false, ◌&&◌, cond, List, [], ◌∷◌, ◌++◌, Option, Some, None, refl, sym, ap, ◌∙◌, subst, Terminal, Symbol, same, operators, is_seal, is_tail, sealed, same_true, Lexeme, lx, no_forms, none, args_rest, unscoped, stop, fields_of, ReadingRow, Val, Vals, rows, at_end, blank, by_row, find, values_over, read, with_blank}
use Rattle.grammar.specs.declared.symbols.Symbol.TheVariants as s
use Rattle.grammar.proofs.reading.Good.{AllProper, AllRows, Good, Is, Piece, Proper, RowOk, flag, hushed, writes}
use Rattle.grammar.proofs.reading.FormsBuilt.{pat_field_ok, pat_fields_ok, as_ok, atype_ok, pat_ok, patom_ok, patoms_ok, pmore_ok, ptuple_ok, qlid_ok, quids_ok, targs_ok, tmore_ok, ttuple_ok, type_ok}
use Rattle.grammar.proofs.reading.OpenBuilt.{arm_ok, binder_ok, binders_ok, branch_ok, branches_ok, letpats_ok, open_ok, opens_form, scrutinees_ok, terms_ok}
use Rattle.grammar.proofs.reading.TermsBuilt.{expr_field_ok, expr_fields_ok, scoped_ok, qhead_ok, aminus_ok, aparen_ok, applied_rows_ok, args_ok, dots_rows_ok, atom_ok, expr_ok, hminus_ok, hparen_ok, more_ok, opend_ok, opname_ok, prim_ok, head_ok, rest_ok, head_rest_ok, tail_ok}
use Rattle.grammar.proofs.reading.PartsBuilt.{algvars_ok, axioms_ok, body_ok, con_ok, fields_ok, id_ok, member_ok, members_ok, op_ok, param_ok, params_ok, pname_ok, pparen_ok, qid_ok, qids_ok, qop_ok, tvars_ok, typedef_ok, upper_ok, value_ok, algs_ok, record_field_ok, record_next_ok, record_rest_ok}
use Rattle.grammar.proofs.reading.DeclsBuilt.{clause_ok, clauses_ok, cloned_ok, decls_ok, elem_ok, elems_ok, elvars_ok, file_ok, path_ok, renamed_ok, subst_ok, used_ok}
use Rattle.grammar.proofs.reading.Reading.{unmapped}

pub all_ok : (s : Symbol) → AllRows s (rows s)
all_ok (s.Take x) = (λ k i w xs vs p g. (xs, (refl, p), refl, g), tt)
all_ok s.Qlid = qlid_ok
all_ok s.TypeOf = type_ok
all_ok s.Atype = atype_ok
all_ok s.Targs = targs_ok
all_ok s.Ttuple = ttuple_ok
all_ok s.Tmore = tmore_ok
all_ok s.Quids = quids_ok
all_ok s.Pat = pat_ok
all_ok s.Patom = patom_ok
all_ok s.Patoms = patoms_ok
all_ok s.Ptuple = ptuple_ok
all_ok s.Pmore = pmore_ok
all_ok s.AsPart = as_ok
all_ok (s.Expr m) = expr_ok m
all_ok (s.Tail m u) = tail_ok m u operators refl
all_ok s.Prim = prim_ok
all_ok s.Atom = atom_ok
all_ok s.Args = args_ok
all_ok (s.HeadRest b) = head_rest_ok b
all_ok (s.Head b) = head_ok b
all_ok s.Scoped = scoped_ok
all_ok s.Qhead = qhead_ok
all_ok s.Applied = applied_rows_ok
all_ok s.Dots = dots_rows_ok
all_ok s.PatFields = pat_fields_ok
all_ok s.PatField = pat_field_ok
all_ok s.ExprFields = expr_fields_ok
all_ok s.ExprField = expr_field_ok
all_ok s.Opname = opname_ok
all_ok s.Opend = opend_ok
all_ok s.Hparen = hparen_ok
all_ok s.Aparen = aparen_ok
all_ok s.Hminus = hminus_ok
all_ok s.Aminus = aminus_ok
all_ok s.GroupRest = rest_ok
all_ok s.More = more_ok
all_ok s.OpenForm = open_ok s.OpenForm (λ e. e) opens_form
all_ok s.Scrutinees = scrutinees_ok
all_ok s.Branch = branch_ok
all_ok s.Arm = arm_ok
all_ok s.Branches = branches_ok
all_ok s.Letpats = letpats_ok
all_ok s.Binder = binder_ok
all_ok s.Binders = binders_ok
all_ok s.Trigger = terms_ok
all_ok s.Seal = tt
all_ok s.File = file_ok
all_ok s.Decls = decls_ok
all_ok s.Tvars = tvars_ok
all_ok s.Typedef = typedef_ok
all_ok s.Upper = upper_ok
all_ok s.Fields = fields_ok
all_ok s.Algvars = algvars_ok
all_ok s.Con = con_ok
all_ok s.RecordField = record_field_ok
all_ok s.RecordRest = record_rest_ok
all_ok s.RecordNext = record_next_ok
all_ok s.Algs = algs_ok
all_ok s.Op = op_ok
all_ok s.Ident = id_ok
all_ok s.Param = param_ok
all_ok s.Params = params_ok
all_ok s.Pparen = pparen_ok
all_ok s.Pname = pname_ok
all_ok s.Body = body_ok
all_ok s.Members = members_ok
all_ok s.Member = member_ok
all_ok s.Value = value_ok
all_ok s.Clause = clause_ok
all_ok s.Clauses = clauses_ok
all_ok s.Used = used_ok
all_ok s.Cloned = cloned_ok
all_ok s.Path = path_ok
all_ok s.Renamed = renamed_ok
all_ok s.Subst = subst_ok
all_ok s.Elems = elems_ok
all_ok s.Elem = elem_ok
all_ok s.Axioms = axioms_ok
all_ok s.Elvars = elvars_ok
all_ok s.Qop = qop_ok
all_ok s.Qid = qid_ok
all_ok s.Qids = qids_ok

abbrev pub BlankOk : (s : Symbol) → ℕ → Val s → Type 0
BlankOk s i v = Is s i v × (writes s v ≡ []) × (flag s v ≡ is_seal s)

pub blank_ok : (s : Symbol) (v : Val s) (i : ℕ) → blank s ≡ Some v → BlankOk s i v
blank_ok s.Targs v i h = let e : no_forms ≡ v = cc in subst (BlankOk s.Targs i) e ((tt, tt), refl, refl)
blank_ok s.Patoms v i h = let e : no_forms ≡ v = cc in subst (BlankOk s.Patoms i) e ((tt, tt), refl, refl)
blank_ok s.Quids v i h = let e : None ≡ v = cc in subst (BlankOk s.Quids i) e (tt, refl, refl)
blank_ok s.AsPart v i h = let e : None ≡ v = cc in subst (BlankOk s.AsPart i) e (tt, refl, refl)
blank_ok (s.Tail m u) v i h = let e : stop ≡ v = cc in subst (BlankOk (s.Tail m u) i) e (tt, refl, refl)
blank_ok s.Seal v i h = (tt, refl, refl)
blank_ok s.Args v i h = let e : none ≡ v = cc in subst (BlankOk s.Args i) e ((tt, tt), refl, refl)
blank_ok (s.HeadRest true) v i h = let e : unscoped none ≡ v = cc in subst (BlankOk (s.HeadRest true) i) e ((tt, tt), refl, refl)
blank_ok (s.HeadRest false) v i h = let e : unscoped none ≡ v = cc in subst (BlankOk (s.HeadRest false) i) e (refl, refl, refl)
blank_ok s.Scoped v i h = let e : None ≡ v = cc in subst (BlankOk s.Scoped i) e (tt, refl, refl)
blank_ok s.Applied v i h = let e : args_rest none ≡ v = cc in subst (BlankOk s.Applied i) e ((tt, tt), refl, refl)
blank_ok s.Dots v i h = let e : [] ≡ v = cc in subst (BlankOk s.Dots i) e (tt, refl, refl)
blank_ok s.File v i h = let e : [] ≡ v = cc in subst (BlankOk s.File i) e ((tt, tt), refl, refl)
blank_ok s.Tvars v i h = let e : record { vars = []; equation = None } ≡ v = cc in subst (BlankOk s.Tvars i) e ((tt, tt), refl, refl)
blank_ok s.Upper v i h = let e : fields_of (record { fields = []; constructors = []; others = [] }) ≡ v = cc in subst (BlankOk s.Upper i) e ((tt, tt, (tt, tt, (tt, tt))), refl, refl)
blank_ok s.Fields v i h = let e : record { fields = []; constructors = []; others = [] } ≡ v = cc in subst (BlankOk s.Fields i) e ((tt, tt, (tt, tt, (tt, tt))), refl, refl)
blank_ok s.Algs v i h = let e : [] ≡ v = cc in subst (BlankOk s.Algs i) e ((tt, tt), refl, refl)
blank_ok s.Params v i h = let e : [] ≡ v = cc in subst (BlankOk s.Params i) e ((tt, tt), refl, refl)
blank_ok s.Body v i h = let e : record { definition = None; members = [] } ≡ v = cc in subst (BlankOk s.Body i) e ((tt, tt, tt), refl, refl)
blank_ok s.Members v i h = let e : [] ≡ v = cc in subst (BlankOk s.Members i) e ((tt, tt), refl, refl)
blank_ok s.Value v i h = let e : None ≡ v = cc in subst (BlankOk s.Value i) e ((tt, tt), refl, refl)
blank_ok s.Clauses v i h = let e : record { clauses = []; others = [] } ≡ v = cc in subst (BlankOk s.Clauses i) e ((tt, tt, (tt, tt)), refl, refl)
blank_ok s.Renamed v i h = let e : None ≡ v = cc in subst (BlankOk s.Renamed i) e (tt, refl, refl)
blank_ok s.Subst v i h = let e : [] ≡ v = cc in subst (BlankOk s.Subst i) e ((tt, tt), refl, refl)
blank_ok s.Elems v i h = let e : [] ≡ v = cc in subst (BlankOk s.Elems i) e ((tt, tt), refl, refl)
blank_ok s.Qids v i h = let e : None ≡ v = cc in subst (BlankOk s.Qids i) e (tt, refl, refl)
blank_ok _ v i h = cc

pub record Both (s : Symbol) (k : List Symbol) (o : Option (Val s)) (p : Option (Vals k)) (vs : Val s × Vals k) : Type 0 where
  pub value : o ≡ Some vs.0
  pub others : p ≡ Some vs.1

pub both : (s : Symbol) (k : List Symbol) (o : Option (Val s)) (p : Option (Vals k)) (vs : Val s × Vals k) → with_blank s k o p ≡ Some vs → Both s k o p vs
both s k (Some v) (Some us) vs h = let e : (v, us) ≡ vs = cc in record { value = ap (λ u. Some u.0) e; others = ap (λ u. Some u.1) e }
both s k None p vs h = cc
both s k (Some v) None vs h = cc

-- the two orders
pub hush : (b : Bool) (s : Symbol) → hushed b s ≡ sealed b s
hush b s = by_cases (is_tail s) b
  where
    by_cases : (v b : Bool) → (v && b) ≡ (b && v)
    by_cases true true = refl
    by_cases true false = refl
    by_cases false true = refl
    by_cases false false = refl

-- a symbol passed over
pub passed_good : (b : Bool) (s : Symbol) (k : List Symbol) (i : ℕ) (xs : List Lexeme) (vs : Val s × Vals k) → blank s ≡ Some vs.0 → Good (cond (hushed b s) true (is_seal s)) k i xs vs.1 → Good b (s ∷ k) i xs vs
passed_good b s k i xs vs h g = by_seal (hushed b s) g
  where
    by_seal : (v : Bool) → Good (cond v true (is_seal s)) k i xs vs.1 → Piece v s (λ c j ys. Good c k j ys vs.1) i xs vs.0
    by_seal true g = (h, g)
    by_seal false g = let ok = blank_ok s vs.0 i h in (xs, ok.0, ap (λ v. v ++ xs) (sym ok.1), rw (ok.2, ok.1) g)

pub end_good : (k : List Symbol) (b : Bool) (i : ℕ) (vs : Vals k) → at_end k ≡ Some vs → Good b k i [] vs
end_good [] b i vs h = refl
end_good (s ∷ k) b i vs h = let w = both s k (blank s) (at_end k) vs h in
    passed_good b s k i [] vs w.value (end_good k (cond (hushed b s) true (is_seal s)) i vs.1 w.others)

pub record Found (s : Symbol) (r : ReadingRow s) (x : Terminal) : Type 0 where
  pub first : r.first ≡ x
  pub ok : RowOk s r

pub found : (s : Symbol) (rs : List (ReadingRow s)) (x : Terminal) (r : ReadingRow s) → AllRows s rs → find rs x ≡ Some r → Found s r x
found s [] x r a h = cc
found s (q ∷ rs) x r a h = by_test (same q.first x) refl h (λ e. found s rs x r a.1 e)
  where
    by_test : (b : Bool) → same q.first x ≡ b → cond b (Some q) (find rs x) ≡ Some r → (find rs x ≡ Some r → Found s r x) → Found s r x
    by_test true e g f = let i : q ≡ r = cc in subst (λ v. Found s v x) i (record { first = same_true q.first x e; ok = a.0 })
    by_test false e g f = f g

pub over_good : (xs : List Lexeme) (x : Lexeme) (i : ℕ) → Proper x.terminal x.text → ((k : List Symbol) (us : Vals k) → read xs (i + 1) false k ≡ Some us → Good false k (i + 1) xs us) → (b : Bool) (k : List Symbol) (vs : Vals k) → values_over (λ k'. read xs (i + 1) false k') i x b k ≡ Some vs → Good b k i (x ∷ xs) vs
over_good xs x i p f b [] vs h = cc
over_good xs x i p f b (s ∷ k) vs h = by_seal (sealed b s) (hush b s) h (λ c us e. over_good xs x i p f c k us e)
  where
    by_row_found : (o : Option (ReadingRow s)) → find (rows s) x.terminal ≡ o → hushed b s ≡ false → by_row s k (λ k'. read xs (i + 1) false k') i x.text o (with_blank s k (blank s) (values_over (λ k'. read xs (i + 1) false k') i x (is_seal s) k)) ≡ Some vs → ((c : Bool) (us : Vals k) → values_over (λ k'. read xs (i + 1) false k') i x c k ≡ Some us → Good c k i (x ∷ xs) us) → Good b (s ∷ k) i (x ∷ xs) vs
    by_row_found (Some r) e n g q = let m = unmapped (λ us. r.act k i x.text us) (read xs (i + 1) false (r.following k)) vs g in
        let d = found s (rows s) x.terminal r (all_ok s) e in
        subst (λ v. Piece (hushed b s) s (λ c j ys. Good c k j ys v.1) i (x ∷ xs) v.0) m.2
        (subst (λ v. Piece v s (λ c j ys. Good c k j ys (r.act k i x.text m.0).1) i (x ∷ xs) (r.act k i x.text m.0).0) (hush false s ∙ sym n)
        (subst (λ y. Good false (s ∷ k) i (lx y x.text ∷ xs) (r.act k i x.text m.0)) d.first
        (d.ok k i x.text xs m.0 (subst (λ y. Proper y x.text) (sym d.first) p) (f (r.following k) m.0 m.1))))
    by_row_found None e n g q = let w = both s k (blank s) (values_over (λ k'. read xs (i + 1) false k') i x (is_seal s) k) vs g in
        passed_good b s k i (x ∷ xs) vs w.value (subst (λ v. Good (cond v true (is_seal s)) k i (x ∷ xs) vs.1) (sym n) (q (is_seal s) vs.1 w.others))

    by_seal : (v : Bool) → hushed b s ≡ v → cond v (with_blank s k (blank s) (values_over (λ k'. read xs (i + 1) false k') i x true k)) (by_row s k (λ k'. read xs (i + 1) false k') i x.text (find (rows s) x.terminal) (with_blank s k (blank s) (values_over (λ k'. read xs (i + 1) false k') i x (is_seal s) k))) ≡ Some vs → ((c : Bool) (us : Vals k) → values_over (λ k'. read xs (i + 1) false k') i x c k ≡ Some us → Good c k i (x ∷ xs) us) → Good b (s ∷ k) i (x ∷ xs) vs
    by_seal true e g q = let w = both s k (blank s) (values_over (λ k'. read xs (i + 1) false k') i x true k) vs g in
        passed_good b s k i (x ∷ xs) vs w.value (subst (λ v. Good (cond v true (is_seal s)) k i (x ∷ xs) vs.1) (sym e) (q true vs.1 w.others))
    by_seal false e g q = by_row_found (find (rows s) x.terminal) refl e g q

-- What is read is right, and has the tokens.
pub built : (xs : List Lexeme) (i : ℕ) (b : Bool) (k : List Symbol) (vs : Vals k) → AllProper xs → read xs i b k ≡ Some vs → Good b k i xs vs
built [] i b k vs p h = end_good k b i vs h
built (x ∷ xs) i b k vs p h = over_good xs x i p.0 (λ k' us e. built xs (i + 1) false k' us p.1 e) b k vs h
