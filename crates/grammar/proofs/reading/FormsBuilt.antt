-- What is read as a type or a pattern is right.
use Rattle.grammar.proofs.reading.Common.{◌≡◌, ℕ, ◌+◌, Bool, true, false, no_false, subst, called, lower, Called, SyntaxForms, no_forms, form_fields_tail, lower_called, record_form, List, [], ◌∷◌, ◌++◌, Option, Some, None, refl, sym, ap, ◌∙◌, append_assoc, append-nil, Symbol, Name, Lexeme, Word, at, lx, mark, name, SyntaxForm, IsForm, IsPlaced, IsUnnamed, composed, enclosed, form_row, form_tail, more_forms, past, pattern_forms, scoped, variable, wild, write_called, write_form, Dotted, named_at, scope_on, upper_called, Vals, rows}
use Rattle.tokens_why.specs.declared.terminal.Terminal.TheVariants as t
use Rattle.grammar.specs.declared.symbols.Symbol.TheVariants as s
use Rattle.grammar.proofs.reading.Reading.{past-append}
use Rattle.grammar.proofs.reading.FormsRead.{close_fields, field_past, field_tokens, regroup}
use Rattle.grammar.proofs.reading.TermsRight.{IsFormNext, IsFormRest, next_forms}
use Rattle.grammar.proofs.reading.Good.{◌▸◌, AllRows, Good, NamedAt, as_part, dots, extend_ok}

pub scope_writes : (w : Word) (d : Option Dotted) → scoped (scope_on w d).scopes ++ (lx t.Uident (scope_on w d).last ∷ []) ≡ lx t.Uident w ∷ dots d
scope_writes w None = refl
scope_writes w (Some d) = refl

pub qlid_ok : AllRows s.Qlid (rows s.Qlid)
qlid_ok = (λ k i w xs vs p g. (xs, tt, refl, g))
    ▸ (λ k i w xs vs p (ys, m, e, (zs, n, d, g)). (zs, tt, rw (e, m.1, d) refl, g))
    ▸ tt

pub type_ok : AllRows s.TypeOf (rows s.TypeOf)
type_ok = (λ k i w xs vs p g. (xs, (tt, refl), refl, g))
    ▸ (λ k i w xs vs p (ys, m, e, g). (ys, ((tt, m.0), (refl, refl, m.1)), rw e refl, g))
    ▸ (λ k i w xs vs p (ys, m, e, (zs, n, d, (us, q, c, g))). (us, ((tt, q.0), (refl, refl, q.1)), rw (e, m.1, d, c) (ap (λ v. lx t.Uident w ∷ mark t.Dot ∷ v) (sym (append_assoc (scoped vs.1.0.scopes ++ (lx t.Lident vs.1.0.last ∷ [])) (form_row vs.1.1.0) us))), rw past-append g))
    ▸ (λ k i w xs vs p (ys, m, e, g). (ys, (m.0, (refl, m.1)), rw (p, e) refl, g))
    ▸ tt

pub atype_ok : AllRows s.Atype (rows s.Atype)
atype_ok = (λ k i w xs vs p g. (xs, (tt, tt, refl), refl, g))
    ▸ (λ k i w xs vs p g. (xs, (tt, (tt, tt), (refl, refl, tt)), refl, g))
    ▸ (λ k i w xs vs p (ys, m, e, (zs, n, d, g)). (zs, (tt, (tt, tt), (refl, refl, tt)), rw (e, m.1, d) (ap (λ v. lx t.Uident w ∷ mark t.Dot ∷ (v ++ zs)) (sym (append-nil (scoped vs.1.0.scopes ++ (lx t.Lident vs.1.0.last ∷ []))))), rw append-nil g))
    ▸ (λ k i w xs vs p (ys, m, e, g). (ys, (tt, m.0, (refl, m.1)), rw (p, e) refl, g))
    ▸ tt

pub targs_ok : AllRows s.Targs (rows s.Targs)
targs_ok = extend_ok s.Targs s.Atype (s.Targs ∷ []) (λ v vs. more_forms v vs.0) (rows s.Atype)
    (λ k i xs v vs (ys, m, e, (zs, n, d, g)). (zs, ((m.0, m.1, n.0), (m.2, n.1)), rw (e, d) (sym (append_assoc (write_form v) (form_row vs.0) zs)), rw past-append g)) atype_ok

pub tmore_ok : AllRows s.Tmore (rows s.Tmore)
tmore_ok = (λ k i w xs vs p g. (xs, (tt, tt), rw p refl, g))
    ▸ (λ k i w xs vs p (ys, m, e, (zs, n, d, g)). (zs, ((m.0, n.0), (m.1, n.1)), rw (p, e, d) (ap (λ v. mark t.Comma ∷ v) (sym (regroup (write_form vs.0) (form_tail vs.1.0) (mark t.RParen ∷ []) zs))), rw (append_assoc, past-append) g))
    ▸ tt

pub ttuple_ok : AllRows s.Ttuple (rows s.Ttuple)
ttuple_ok = (λ k i w xs vs p g. (xs, (tt, tt), rw p refl, g))
    ▸ extend_ok s.Ttuple s.TypeOf (s.Tmore ∷ []) (λ v vs. more_forms v vs.0) (rows s.TypeOf)
    (λ k i xs v vs (ys, m, e, (zs, n, d, g)). (zs, ((m.0, n.0), (m.1, n.1)), rw (e, d) (sym (regroup (write_form v) (form_tail vs.0) (mark t.RParen ∷ []) zs)), rw (append_assoc, past-append) g)) type_ok

pub quids_ok : AllRows s.Quids (rows s.Quids)
quids_ok = (λ k i w xs vs p (ys, m, e, (zs, n, d, g)). (zs, tt, rw (p, e, d) (ap (λ v. mark t.Dot ∷ (v ++ zs)) (sym (scope_writes vs.0.text vs.1.0))), rw (scope_writes vs.0.text vs.1.0) g))
    ▸ tt

pub as_ok : AllRows s.AsPart (rows s.AsPart)
as_ok = (λ k i w xs vs p (ys, m, e, g). (ys, m.0, rw (p, e) refl, g))
    ▸ tt

-- a field that is read from its parts
pub field_written : (a b c d xs ys zs us : List Lexeme) (w : Word) → w ≡ [] → xs ≡ lx t.Equal w ∷ ys → ys ≡ b ++ zs → zs ≡ (c ++ d) ++ us → a ++ xs ≡ ((a ++ (mark t.Equal ∷ (b ++ c))) ++ d) ++ us
field_written a b c d xs ys zs us w p x y z = ap (λ v. a ++ v) (x ∙ ap (λ v. lx t.Equal v ∷ ys) p ∙ ap (λ v. mark t.Equal ∷ v) (y ∙ ap (λ v. b ++ v) z)) ∙ sym (field_tokens a b c d us)

pub scoped_name : Dotted → List Lexeme
scoped_name d = scoped d.scopes ++ (lx t.Lident d.last ∷ [])

-- what may come after a `;` is what comes after the field before it
form_next : (i : ℕ) (cs : List Called) (ps : SyntaxForms) (semi : Bool) → IsFormNext (i + 1) cs ps semi → IsFormRest i cs ps × (form_fields_tail cs ps ++ close_fields semi ≡ mark t.Semi ∷ next_forms cs ps semi)
form_next i [] no_forms true h = ((tt, tt, tt), refl)
form_next i [] no_forms false h = absurd (no_false h.1)
form_next i [] (more_forms p ps) semi h = cc
form_next i (c ∷ cs) no_forms semi h = absurd h.0
form_next i (c ∷ cs) (more_forms p ps) semi h = (h, refl)

pub pat_fields_ok : AllRows s.PatFields (rows s.PatFields)
pat_fields_ok = (λ k i w xs vs p g. (xs, (tt, tt, tt), rw p refl, g))
    ▸ (λ k i w xs vs p (ys, m, e, g). (let r = form_next i vs.0.names vs.0.forms vs.0.semi m in (ys, r.0, ap (λ v. lx t.Semi v ∷ xs) p ∙ ap (λ v. mark t.Semi ∷ v) e ∙ ap (λ v. v ++ ys) (sym r.1), subst (λ v. Good false k (past i v) ys vs.1) (sym r.1) g)))
    ▸ tt

pub pat_field_ok : AllRows s.PatField (rows s.PatField)
pat_field_ok = (λ k i w xs vs p g. (xs, (refl, refl), rw p refl, g))
    ▸ (λ k i w xs vs p (ys, m, e, (zs, n, d, (us, q, c, g))). (us, ((tt, q.0), (n.0, q.1), (refl, n.1, q.2)), field_written (lx t.Lident w ∷ []) (write_form vs.1.0) (form_fields_tail vs.1.1.0.names vs.1.1.0.forms) (close_fields vs.1.1.0.semi) xs ys zs us vs.0.text m.1 e d c, subst (λ j. Good false k j us vs.1.1.1) (sym (field_past (lx t.Lident w ∷ []) (write_form vs.1.0) (form_fields_tail vs.1.1.0.names vs.1.1.0.forms) (close_fields vs.1.1.0.semi) i)) g))
    ▸ (λ k i w xs vs p (ys, m, e, (zs, n, d, (us, q, c, (ws, o, b, (ts, r, f, g))))). (ts, ((tt, r.0), (o.0, r.1), (refl, o.1, r.2)), ap (λ v. lx t.Uident w ∷ v) (e ∙ ap (λ v. lx t.Dot v ∷ ys) m.1 ∙ ap (λ v. mark t.Dot ∷ v) d) ∙ field_written (write_called (called i (w ∷ vs.1.0.scopes) (lower vs.1.0.last))) (write_form vs.1.1.1.0) (form_fields_tail vs.1.1.1.1.0.names vs.1.1.1.1.0.forms) (close_fields vs.1.1.1.1.0.semi) zs us ws ts vs.1.1.0.text q.1 c b f, subst (λ j. Good false k j ts vs.1.1.1.1.1) (sym (field_past (write_called (called i (w ∷ vs.1.0.scopes) (lower vs.1.0.last))) (write_form vs.1.1.1.0) (form_fields_tail vs.1.1.1.1.0.names vs.1.1.1.1.0.forms) (close_fields vs.1.1.1.1.0.semi) i)) g))
    ▸ tt

pub patom_ok : AllRows s.Patom (rows s.Patom)
patom_ok = (λ k i w xs vs p g. (xs, (tt, tt, refl), rw p refl, g))
    ▸ (λ k i w xs vs p g. (xs, (tt, tt, (refl, refl)), refl, g))
    ▸ (λ k i w xs vs p (ys, m, e, g). (ys, (tt, (tt, tt), (refl, refl, tt)), rw e (ap (λ v. v ++ ys) (sym (append-nil (write_called (upper_called i w vs.0)) ∙ scope_writes w vs.0))), rw (append-nil (write_called (upper_called i w vs.0)), scope_writes w vs.0) g))
    ▸ (λ k i w xs vs p (ys, m, e, g). (ys, (tt, m.0, (refl, m.1)), rw (p, e) refl, g))
    ▸ (λ k i w xs vs p (ys, m, e, (zs, n, d, (us, q, c, (ws, o, b, g)))). (ws, (tt, (tt, tt, (tt, o.0), (q.0, o.1)), (refl, (refl, q.1, o.2))), ap (λ v. lx t.LBrace v ∷ xs) p ∙ ap (λ v. mark t.LBrace ∷ v) (e ∙ field_written (write_called (lower_called (i + 1) vs.0)) (write_form vs.1.1.0) (form_fields_tail vs.1.1.1.0.names vs.1.1.1.0.forms) (close_fields vs.1.1.1.0.semi) ys zs us ws vs.1.0.text n.1 d c b), subst (λ j. Good false k j ws vs.1.1.1.1) (sym (field_past (write_called (lower_called (i + 1) vs.0)) (write_form vs.1.1.0) (form_fields_tail vs.1.1.1.0.names vs.1.1.1.0.forms) (close_fields vs.1.1.1.0.semi) (i + 1))) g))
    ▸ tt

-- a pattern with the name after it
pub named_ok : (k : List Symbol) (i : ℕ) (f : SyntaxForm) (m : Option Name) (xs ys : List Lexeme) (vs : Vals k) → IsUnnamed f → IsForm pattern_forms f → IsPlaced i f → NamedAt (past i (write_form f)) m → xs ≡ write_form f ++ (as_part m ++ ys) → Good false k (past (past i (write_form f)) (as_part m)) ys vs → Good false (s.Pat ∷ k) i xs (named_at i f m, vs)
named_ok k i f None xs ys vs u l p n e g = (ys, (l, p), e, g)
named_ok k i f (Some x) xs ys vs u l p n e g = (ys, ((tt, u, l), (refl, p, n)), e ∙ sym (append_assoc (write_form f) (as_part (Some x)) ys), rw past-append g)

pub pat_ok : AllRows s.Pat (rows s.Pat)
pat_ok = (λ k i w xs vs p (ys, m, e, g). named_ok k i (wild (at i)) vs.0 (lx t.Wild w ∷ xs) ys vs.1 tt tt refl m (rw (p, e) refl) g)
    ▸ (λ k i w xs vs p (ys, m, e, g). named_ok k i (variable (at i) (name i w)) vs.0 (lx t.Lident w ∷ xs) ys vs.1 tt tt (refl, refl) m (rw (p, e) refl) g)
    ▸ (λ k i w xs vs p (ys, m, e, (zs, n, d, (us, q, c, g))). named_ok k i (composed (at i) (upper_called i w vs.0) vs.1.0) vs.1.1.0 (lx t.Uident w ∷ xs) us vs.1.1.1 tt (tt, n.0) (refl, refl, rw (scope_writes w vs.0) n.1) (rw (past-append, scope_writes w vs.0) q) (rw (e, d, c, scope_writes w vs.0) (ap (λ v. lx t.Uident w ∷ v) (sym (append_assoc (dots vs.0) (form_row vs.1.0) (as_part vs.1.1.0 ++ us))))) (rw (past-append, scope_writes w vs.0) g))
    ▸ (λ k i w xs vs p (ys, m, e, (zs, n, d, g)). named_ok k i (enclosed (at i) vs.0) vs.1.0 (lx t.LParen w ∷ xs) zs vs.1.1 tt m.0 (refl, m.1) n (rw (p, e, d) refl) g)
    ▸ (λ k i w xs vs p (ys, m, e, (zs, n, d, (us, q, c, (ws, o, b, (ts, r, f, g))))). (let past_it = sym (field_past (write_called (lower_called (i + 1) vs.0)) (write_form vs.1.1.0) (form_fields_tail vs.1.1.1.0.names vs.1.1.1.0.forms) (close_fields vs.1.1.1.0.semi) (i + 1)) in
    named_ok k i (record_form i (lower_called (i + 1) vs.0) vs.1.1.0 vs.1.1.1.0) vs.1.1.1.1.0 (lx t.LBrace w ∷ xs) ts vs.1.1.1.1.1 tt (tt, tt, (tt, o.0), (q.0, o.1)) (refl, (refl, q.1, o.2)) (subst (λ j. NamedAt j vs.1.1.1.1.0) past_it r)
    (ap (λ v. lx t.LBrace v ∷ xs) p ∙ ap (λ v. mark t.LBrace ∷ v) (e ∙ field_written (write_called (lower_called (i + 1) vs.0)) (write_form vs.1.1.0) (form_fields_tail vs.1.1.1.0.names vs.1.1.1.0.forms) (close_fields vs.1.1.1.0.semi) ys zs us (as_part vs.1.1.1.1.0 ++ ts) vs.1.0.text n.1 d c (b ∙ ap (λ v. (form_fields_tail vs.1.1.1.0.names vs.1.1.1.0.forms ++ close_fields vs.1.1.1.0.semi) ++ v) f)))
    (subst (λ j. Good false k (past j (as_part vs.1.1.1.1.0)) ts vs.1.1.1.1.1) past_it g)))
    ▸ tt

pub patoms_ok : AllRows s.Patoms (rows s.Patoms)
patoms_ok = extend_ok s.Patoms s.Patom (s.Patoms ∷ []) (λ v vs. more_forms v vs.0) (rows s.Patom)
    (λ k i xs v vs (ys, m, e, (zs, n, d, g)). (zs, ((m.0, m.1, n.0), (m.2, n.1)), rw (e, d) (sym (append_assoc (write_form v) (form_row vs.0) zs)), rw past-append g)) patom_ok

pub pmore_ok : AllRows s.Pmore (rows s.Pmore)
pmore_ok = (λ k i w xs vs p g. (xs, (tt, tt), rw p refl, g))
    ▸ (λ k i w xs vs p (ys, m, e, (zs, n, d, g)). (zs, ((m.0, n.0), (m.1, n.1)), rw (p, e, d) (ap (λ v. mark t.Comma ∷ v) (sym (regroup (write_form vs.0) (form_tail vs.1.0) (mark t.RParen ∷ []) zs))), rw (append_assoc, past-append) g))
    ▸ tt

pub ptuple_ok : AllRows s.Ptuple (rows s.Ptuple)
ptuple_ok = (λ k i w xs vs p g. (xs, (tt, tt), rw p refl, g))
    ▸ extend_ok s.Ptuple s.Pat (s.Pmore ∷ []) (λ v vs. more_forms v vs.0) (rows s.Pat)
    (λ k i xs v vs (ys, m, e, (zs, n, d, g)). (zs, ((m.0, n.0), (m.1, n.1)), rw (e, d) (sym (regroup (write_form v) (form_tail vs.0) (mark t.RParen ∷ []) zs)), rw (append_assoc, past-append) g)) pat_ok
