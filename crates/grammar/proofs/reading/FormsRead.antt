-- The tokens of a type or a pattern are read as it.
use Rattle.grammar.proofs.reading.Common.{◌≡◌, Bool, true, false, ap, ◌∙◌, subst, ℕ, ◌+◌, List, [], ◌∷◌, ◌++◌, Option, Some, None, refl, sym, append_assoc, append-nil, Symbol, Name, name, Dotted, FormFields, next_form, lower_called, Called, AreNamedForms, IsLowerName, PlacedFieldForms, fielded_form, form_fields_tail, semicolon_after, Lexeme, Word, at, lx, mark, AreForms, AreParts, SyntaxForm, SyntaxForms, IsForm, IsHead, IsFormPart, IsPlaced, IsUnnamed, Own, PlacedList, PlacedRow, aliased, called, composed, enclosed, form_list, form_row, form_tail, infix_op, lower, more_forms, no_forms, past, pattern_forms, prefix_op, scoped, star, type_variable, type_forms, upper, variable, wild, write_called, write_form, write_own, named_at, Vals, row}
use Rattle.tokens_why.specs.declared.terminal.Terminal.TheVariants as t
use Rattle.grammar.specs.declared.symbols.Symbol.TheVariants as s
use Rattle.grammar.proofs.reading.Reading.{Extends, Reads, Stops, apart_close, extended, passed, past-append}

pub reads_qlid : (qs : List Word) (w : Word) (ys : List Lexeme) (i : ℕ) (k : List Symbol) (vs : Vals k) → Reads k ys (past i (scoped qs ++ (lx t.Lident w ∷ []))) vs → Reads (s.Qlid ∷ k) ((scoped qs ++ (lx t.Lident w ∷ [])) ++ ys) i (record { scopes = qs; last = w }, vs)
reads_qlid [] w ys i k vs h = rw h refl
reads_qlid (q ∷ qs) w ys i k vs h = rw (reads_qlid qs w ys (i + 1 + 1) k vs h) refl

-- a type's name, before its arguments and as a part
pub type_headed : (qs : List Word) (o : Own) (ts : SyntaxForms) (ys : List Lexeme) (i : ℕ) (k : List Symbol) (vs : Vals k) → IsHead type_forms o → Reads (s.Targs ∷ k) ys (past i (scoped qs ++ write_own o)) (ts, vs) → Reads (s.TypeOf ∷ k) ((scoped qs ++ write_own o) ++ ys) i (composed (at i) (called i qs o) ts, vs)
type_headed [] (lower w) ts ys i k vs l h = rw h refl
type_headed (q ∷ qs) (lower w) ts ys i k vs l h = rw (reads_qlid qs w ys (i + 1 + 1) (s.Targs ∷ k) (ts, vs) h) refl
type_headed qs _ ts ys i k vs l h = elim l [ ]

pub atype_headed : (qs : List Word) (o : Own) (ys : List Lexeme) (i : ℕ) (k : List Symbol) (vs : Vals k) → IsHead type_forms o → Reads k ys (past i (scoped qs ++ write_own o)) vs → Reads (s.Atype ∷ k) ((scoped qs ++ write_own o) ++ ys) i (composed (at i) (called i qs o) no_forms, vs)
atype_headed [] (lower w) ys i k vs l h = rw h refl
atype_headed (q ∷ qs) (lower w) ys i k vs l h = rw (reads_qlid qs w ys (i + 1 + 1) k vs h) refl
atype_headed qs _ ys i k vs l h = elim l [ ]

pub targs_extend : Extends s.Targs s.Atype (s.Targs ∷ []) (λ v vs. more_forms v vs.0) []
targs_extend = record { is = refl; due = refl; apart = λ x r e. refl }

pub ttuple_extend : Extends s.Ttuple s.TypeOf (s.Tmore ∷ []) (λ v vs. more_forms v vs.0) (row s.Ttuple t.RParen [] (λ i w vs. no_forms) ∷ [])
ttuple_extend = record { is = refl; due = refl; apart = apart_close (row s.Ttuple t.RParen [] (λ i w vs. no_forms)) refl refl }

-- after a mark, where what is regrouped ends
pub tail_past : (a b c : List Lexeme) (i : ℕ) → past (i + 1) ((a ++ b) ++ c) ≡ past (past (i + 1) a) (b ++ c)
tail_past a b c i = ap (past (i + 1)) (append_assoc a b c) ∙ past-append a (b ++ c) (i + 1)

pub regroup : (a b c d : List Lexeme) → ((a ++ b) ++ c) ++ d ≡ a ++ ((b ++ c) ++ d)
regroup a b c d = simp append_assoc

pub type_stop : (ts : SyntaxForms) (ys : List Lexeme) → Stops s.Targs ((form_tail ts ++ (mark t.RParen ∷ [])) ++ ys)
type_stop no_forms ys = refl
type_stop (more_forms f fs) ys = refl

mutual
  pub reads_type : (f : SyntaxForm) (ys : List Lexeme) (i : ℕ) (k : List Symbol) (vs : Vals k) → IsForm type_forms f → IsPlaced i f → Stops s.Targs ys → Reads k ys (past i (write_form f)) vs → Reads (s.TypeOf ∷ k) (write_form f ++ ys) i (f, vs)
  reads_type (type_variable a w) ys i k vs l p n h = rw (h, p) refl
  reads_type (composed a c ts) ys i k vs l p n h = rw (append_assoc (write_called c) (form_row ts) ys, p.0, p.1) (type_headed c.scopes c.own ts (form_row ts ++ ys) i k vs l.0 (reads_row ts ys (past i (write_called c)) k vs l.1 p.2 n (rw past-append at h)))
  reads_type (enclosed a ts) ys i k vs l p n h = rw (p.0, reads_tuple ts ys (i + 1) k vs l p.1 h) refl
  reads_type (wild a) ys i k vs l p n h = elim l [ ]
  reads_type (variable a m) ys i k vs l p n h = elim l [ ]
  reads_type (aliased a f m) ys i k vs l p n h = elim l.0 [ ]
  reads_type (fielded_form a cs ps semi) ys i k vs l p n h = elim l.0 [ ]

  pub reads_atype : (f : SyntaxForm) (ys : List Lexeme) (i : ℕ) (k : List Symbol) (vs : Vals k) → IsFormPart f → IsForm type_forms f → IsPlaced i f → Reads k ys (past i (write_form f)) vs → Reads (s.Atype ∷ k) (write_form f ++ ys) i (f, vs)
  reads_atype (type_variable a w) ys i k vs d l p h = rw (h, p) refl
  reads_atype (composed a c no_forms) ys i k vs d l p h = rw (append-nil, p.0, p.1) (atype_headed c.scopes c.own ys i k vs l.0 (rw append-nil at h))
  reads_atype (composed a c (more_forms g gs)) ys i k vs d l p h = elim d [ ]
  reads_atype (enclosed a ts) ys i k vs d l p h = rw (p.0, reads_tuple ts ys (i + 1) k vs l p.1 h) refl
  reads_atype (wild a) ys i k vs d l p h = elim l [ ]
  reads_atype (variable a m) ys i k vs d l p h = elim l [ ]
  reads_atype (aliased a f m) ys i k vs d l p h = elim d [ ]
  reads_atype (fielded_form a cs ps semi) ys i k vs d l p h = elim l.0 [ ]

  -- side by side
  pub reads_row : (ts : SyntaxForms) (ys : List Lexeme) (i : ℕ) (k : List Symbol) (vs : Vals k) → AreParts type_forms ts → PlacedRow i ts → Stops s.Targs ys → Reads k ys (past i (form_row ts)) vs → Reads (s.Targs ∷ k) (form_row ts ++ ys) i (ts, vs)
  reads_row no_forms ys i k vs l p n h = passed s.Targs no_forms k ys i vs refl refl n h
  reads_row (more_forms f fs) ys i k vs l p n h = rw append_assoc (extended s.Targs s.Atype (s.Targs ∷ []) (λ v vs. more_forms v vs.0) [] targs_extend (write_form f ++ (form_row fs ++ ys)) i k f (fs, vs)
      (reads_atype f (form_row fs ++ ys) i (s.Targs ∷ k) (fs, vs) l.0 l.1 p.0 (reads_row fs ys (past i (write_form f)) k vs l.2 p.1 n (rw past-append at h))))

  -- in parentheses
  pub reads_tuple : (ts : SyntaxForms) (ys : List Lexeme) (i : ℕ) (k : List Symbol) (vs : Vals k) → AreForms type_forms ts → PlacedList i ts → Reads k ys (past i (form_list ts ++ (mark t.RParen ∷ []))) vs → Reads (s.Ttuple ∷ k) ((form_list ts ++ (mark t.RParen ∷ [])) ++ ys) i (ts, vs)
  reads_tuple no_forms ys i k vs l p h = rw h refl
  reads_tuple (more_forms f fs) ys i k vs l p h = rw (regroup (write_form f) (form_tail fs) (mark t.RParen ∷ []) ys) (extended s.Ttuple s.TypeOf (s.Tmore ∷ []) (λ v vs. more_forms v vs.0) (row s.Ttuple t.RParen [] (λ i w vs. no_forms) ∷ []) ttuple_extend (write_form f ++ ((form_tail fs ++ (mark t.RParen ∷ [])) ++ ys)) i k f (fs, vs)
      (reads_type f ((form_tail fs ++ (mark t.RParen ∷ [])) ++ ys) i (s.Tmore ∷ k) (fs, vs) l.0 p.0 (type_stop fs ys) (reads_more fs ys (past i (write_form f)) k vs l.1 p.1 (rw (append_assoc, past-append) at h))))

  pub reads_more : (ts : SyntaxForms) (ys : List Lexeme) (i : ℕ) (k : List Symbol) (vs : Vals k) → AreForms type_forms ts → PlacedList (i + 1) ts → Reads k ys (past i (form_tail ts ++ (mark t.RParen ∷ []))) vs → Reads (s.Tmore ∷ k) ((form_tail ts ++ (mark t.RParen ∷ [])) ++ ys) i (ts, vs)
  reads_more no_forms ys i k vs l p h = rw h refl
  reads_more (more_forms f fs) ys i k vs l p h = rw (
    regroup (write_form f) (form_tail fs) (mark t.RParen ∷ []) ys,
    reads_type f ((form_tail fs ++ (mark t.RParen ∷ [])) ++ ys) (i + 1) (s.Tmore ∷ k) (fs, vs) l.0 p.0 (type_stop fs ys) (reads_more fs ys (past (i + 1) (write_form f)) k vs l.1 p.1 (subst (λ n. Reads k ys n vs) (tail_past (write_form f) (form_tail fs) (mark t.RParen ∷ []) i) h)),
  ) refl

-- patterns
pub reads_quids : (qs : List Word) (w : Word) (ys : List Lexeme) (i : ℕ) (k : List Symbol) (vs : Vals k) → Stops s.Quids ys → Reads k ys (past (i + 1) (scoped qs ++ (lx t.Uident w ∷ []))) vs → Reads (s.Quids ∷ k) (mark t.Dot ∷ ((scoped qs ++ (lx t.Uident w ∷ [])) ++ ys)) i (Some (record { scopes = qs; last = w }), vs)
reads_quids [] w ys i k vs n h = rw (passed s.Quids None k ys (i + 1 + 1) vs refl refl n h) refl
reads_quids (q ∷ qs) w ys i k vs n h = rw (reads_quids qs w ys (i + 1 + 1) k vs n h) refl

pub pat_headed : (qs : List Word) (o : Own) (ts : SyntaxForms) (m : Option Name) (ys : List Lexeme) (i : ℕ) (k : List Symbol) (vs : Vals k) → IsHead pattern_forms o → Stops s.Quids ys → Reads (s.Patoms ∷ s.AsPart ∷ k) ys (past i (scoped qs ++ write_own o)) (ts, (m, vs)) → Reads (s.Pat ∷ k) ((scoped qs ++ write_own o) ++ ys) i (named_at i (composed (at i) (called i qs o) ts) m, vs)
pat_headed [] (upper w) ts m ys i k vs l n h = rw (passed s.Quids None (s.Patoms ∷ s.AsPart ∷ k) ys (i + 1) (ts, (m, vs)) refl refl n h) refl
pat_headed (q ∷ qs) (upper w) ts m ys i k vs l n h = rw (reads_quids qs w ys (i + 1) (s.Patoms ∷ s.AsPart ∷ k) (ts, (m, vs)) n h) refl
pat_headed qs _ ts m ys i k vs l n h = elim l [ ]

pub patom_headed : (qs : List Word) (o : Own) (ys : List Lexeme) (i : ℕ) (k : List Symbol) (vs : Vals k) → IsHead pattern_forms o → Stops s.Quids ys → Reads k ys (past i (scoped qs ++ write_own o)) vs → Reads (s.Patom ∷ k) ((scoped qs ++ write_own o) ++ ys) i (composed (at i) (called i qs o) no_forms, vs)
patom_headed [] (upper w) ys i k vs l n h = rw (passed s.Quids None k ys (i + 1) vs refl refl n h) refl
patom_headed (q ∷ qs) (upper w) ys i k vs l n h = rw (reads_quids qs w ys (i + 1) k vs n h) refl
patom_headed qs _ ys i k vs l n h = elim l [ ]

pub patoms_extend : Extends s.Patoms s.Patom (s.Patoms ∷ []) (λ v vs. more_forms v vs.0) []
patoms_extend = record { is = refl; due = refl; apart = λ x r e. refl }

pub ptuple_extend : Extends s.Ptuple s.Pat (s.Pmore ∷ []) (λ v vs. more_forms v vs.0) (row s.Ptuple t.RParen [] (λ i w vs. no_forms) ∷ [])
ptuple_extend = record { is = refl; due = refl; apart = apart_close (row s.Ptuple t.RParen [] (λ i w vs. no_forms)) refl refl }

-- a field, with what comes after it
pub field_tokens : (a b c d ys : List Lexeme) → ((a ++ (mark t.Equal ∷ (b ++ c))) ++ d) ++ ys ≡ a ++ (mark t.Equal ∷ (b ++ ((c ++ d) ++ ys)))
field_tokens a b c d ys = simp append_assoc

pub field_past : (a b c d : List Lexeme) (i : ℕ) → past i ((a ++ (mark t.Equal ∷ (b ++ c))) ++ d) ≡ past (past (past i a + 1) b) (c ++ d)
field_past a b c d i = ap (past i) (regrouped a b c d) ∙ past-append a (mark t.Equal ∷ (b ++ (c ++ d))) i ∙ past-append b (c ++ d) (past i a + 1)
  where
    regrouped : (a b c d : List Lexeme) → (a ++ (mark t.Equal ∷ (b ++ c))) ++ d ≡ a ++ (mark t.Equal ∷ (b ++ (c ++ d)))
    regrouped a b c d = simp append_assoc

-- a name in lower case, by its parts
pub lower_is : (i : ℕ) (c : Called) (w : Word) → c.at ≡ i → c.own ≡ lower w → called i c.scopes (lower w) ≡ c
lower_is i c w p e = ap (λ v. called v c.scopes (lower w)) (sym p) ∙ ap (λ v. called c.at c.scopes v) (sym e)

pub lower_tokens : (c : Called) (w : Word) → c.own ≡ lower w → write_called c ≡ scoped c.scopes ++ (lx t.Lident w ∷ [])
lower_tokens c w e = ap (λ v. scoped c.scopes ++ write_own v) e

-- a name in lower case is read with what comes after it
pub reads_lower : (c : Called) (zs : List Lexeme) (i : ℕ) (k : List Symbol) (vs : Vals k) → IsLowerName c.own → c.at ≡ i → Reads k zs (past i (write_called c)) vs → (d : Dotted) × (lower_called i d ≡ c) × Reads (s.Qlid ∷ k) (write_called c ++ zs) i (d, vs)
reads_lower c zs i k vs l q h = by_own c.own refl l
  where
    by_own : (o : Own) → c.own ≡ o → IsLowerName o → (d : Dotted) × (lower_called i d ≡ c) × Reads (s.Qlid ∷ k) (write_called c ++ zs) i (d, vs)
    by_own (lower w) e l = (record { scopes = c.scopes; last = w }, lower_is i c w q e, subst (λ v. Reads (s.Qlid ∷ k) (v ++ zs) i (record { scopes = c.scopes; last = w }, vs)) (sym (lower_tokens c w e)) (reads_qlid c.scopes w zs i k vs (subst (λ v. Reads k zs (past i v) vs) (lower_tokens c w e) h)))
    by_own _ e l = elim l [ ]

-- a field after others
next_form_field : (qs : List Word) (w : Word) (p : SyntaxForm) (r : FormFields) (zs : List Lexeme) (i : ℕ) (k : List Symbol) (m : Name) (vs : Vals k) → Reads (s.Take t.Equal ∷ s.Pat ∷ s.PatFields ∷ k) zs (past i (scoped qs ++ (lx t.Lident w ∷ []))) (m, (p, (r, vs))) → Reads (s.PatField ∷ k) ((scoped qs ++ (lx t.Lident w ∷ [])) ++ zs) i (next_form (called i qs (lower w)) p r, vs)
next_form_field [] w p r zs i k m vs h = rw h refl
next_form_field (q ∷ qs) w p r zs i k m vs h = rw (reads_qlid qs w zs (i + 1 + 1) (s.Take t.Equal ∷ s.Pat ∷ s.PatFields ∷ k) (m, (p, (r, vs))) h) refl

other_form_field : (c : Called) (p : SyntaxForm) (r : FormFields) (zs : List Lexeme) (i : ℕ) (k : List Symbol) (m : Name) (vs : Vals k) → IsLowerName c.own → c.at ≡ i → Reads (s.Take t.Equal ∷ s.Pat ∷ s.PatFields ∷ k) zs (past i (write_called c)) (m, (p, (r, vs))) → Reads (s.PatField ∷ k) (write_called c ++ zs) i (next_form c p r, vs)
other_form_field c p r zs i k m vs l q h = by_own c.own refl l
  where
    by_own : (o : Own) → c.own ≡ o → IsLowerName o → Reads (s.PatField ∷ k) (write_called c ++ zs) i (next_form c p r, vs)
    by_own (lower w) e l = subst (λ d. Reads (s.PatField ∷ k) (write_called c ++ zs) i (next_form d p r, vs)) (lower_is i c w q e) (subst (λ v. Reads (s.PatField ∷ k) (v ++ zs) i (next_form (called i c.scopes (lower w)) p r, vs)) (sym (lower_tokens c w e)) (next_form_field c.scopes w p r zs i k m vs (subst (λ v. Reads (s.Take t.Equal ∷ s.Pat ∷ s.PatFields ∷ k) zs (past i v) (m, (p, (r, vs)))) (lower_tokens c w e) h)))
    by_own _ e l = elim l [ ]

abbrev pub close_fields : Bool → List Lexeme
close_fields semi = semicolon_after semi ++ (mark t.RBrace ∷ [])

-- what may come after a pattern
pub record PatStops (ys : List Lexeme) : Type 0 where
  pub quids : Stops s.Quids ys
  pub patoms : Stops s.Patoms ys
  pub as_part : Stops s.AsPart ys

pub pat_stop : (ts : SyntaxForms) (ys : List Lexeme) → PatStops ((form_tail ts ++ (mark t.RParen ∷ [])) ++ ys)
pat_stop no_forms ys = record { quids = refl; patoms = refl; as_part = refl }
pat_stop (more_forms f fs) ys = record { quids = refl; patoms = refl; as_part = refl }

pub field_stop : (cs : List Called) (ps : SyntaxForms) (semi : Bool) (ys : List Lexeme) → PatStops ((form_fields_tail cs ps ++ close_fields semi) ++ ys)
field_stop [] no_forms true ys = record { quids = refl; patoms = refl; as_part = refl }
field_stop [] no_forms false ys = record { quids = refl; patoms = refl; as_part = refl }
field_stop [] (more_forms f fs) true ys = record { quids = refl; patoms = refl; as_part = refl }
field_stop [] (more_forms f fs) false ys = record { quids = refl; patoms = refl; as_part = refl }
field_stop (c ∷ cs) no_forms true ys = record { quids = refl; patoms = refl; as_part = refl }
field_stop (c ∷ cs) no_forms false ys = record { quids = refl; patoms = refl; as_part = refl }
field_stop (c ∷ cs) (more_forms f fs) semi ys = record { quids = refl; patoms = refl; as_part = refl }

-- no scope comes after patterns side by side
pub row_stop : (ts : SyntaxForms) (ys : List Lexeme) → AreParts pattern_forms ts → Stops s.Quids ys → Stops s.Quids (form_row ts ++ ys)
row_stop no_forms ys l n = n
row_stop (more_forms (wild a) fs) ys l n = refl
row_stop (more_forms (variable a m) fs) ys l n = refl
row_stop (more_forms (type_variable a w) fs) ys l n = elim l.1 [ ]
row_stop (more_forms (composed a c gs) fs) ys l n = by_scopes c.scopes c.own gs
  where
    by_scopes : (qs : List Word) (o : Own) (gs : SyntaxForms) → Stops s.Quids ((((scoped qs ++ write_own o) ++ form_row gs) ++ form_row fs) ++ ys)
    by_scopes [] (lower w) gs = refl
    by_scopes [] (upper w) gs = refl
    by_scopes [] (infix_op o w) gs = refl
    by_scopes [] (prefix_op o w) gs = refl
    by_scopes [] star gs = refl
    by_scopes (q ∷ qs) o gs = refl
row_stop (more_forms (enclosed a gs) fs) ys l n = refl
row_stop (more_forms (aliased a p m) fs) ys l n = elim l.0 [ ]
row_stop (more_forms (fielded_form a cs ps semi) fs) ys l n = refl

pub reads_as : (x : Name) (ys : List Lexeme) (j : ℕ) (k : List Symbol) (vs : Vals k) → x.at ≡ j + 1 → Reads k ys (j + 1 + 1) vs → Reads (s.AsPart ∷ k) (mark t.AsWord ∷ lx t.Lident x.text ∷ ys) j (Some x, vs)
reads_as x ys j k vs p h = rw (h, sym p) refl

-- What comes after a pattern: a name may, after one that has none.
abbrev pub ReadsAfter : SyntaxForm → Option Name → (k : List Symbol) → List Lexeme → ℕ → Vals k → Type 0
ReadsAfter (aliased a g x) m k ys j vs = (m ≡ None) × Reads k ys j vs
ReadsAfter _ m k ys j vs = Reads (s.AsPart ∷ k) ys j (m, vs)

pub after_named : (f : SyntaxForm) (m : Option Name) (k : List Symbol) (ys : List Lexeme) (j : ℕ) (vs : Vals k) → IsUnnamed f → Reads (s.AsPart ∷ k) ys j (m, vs) → ReadsAfter f m k ys j vs
after_named (aliased a g x) m k ys j vs u h = elim u [ ]
after_named _ m k ys j vs u h = h

pub after_plain : (f : SyntaxForm) (k : List Symbol) (ys : List Lexeme) (j : ℕ) (vs : Vals k) → Stops s.AsPart ys → Reads k ys j vs → ReadsAfter f None k ys j vs
after_plain (aliased a g x) k ys j vs n h = (refl, h)
after_plain _ k ys j vs n h = passed s.AsPart None k ys j vs refl refl n h

-- the first field, and another one, with the pattern and the fields after it
reads_first : (c : Called) (cs : List Called) (g : SyntaxForm) (gs : SyntaxForms) (semi : Bool) (ys : List Lexeme) (i : ℕ) (k : List Symbol) (vs : Vals k) → IsLowerName c.own → c.at ≡ i → Reads (s.Pat ∷ s.PatFields ∷ k) (write_form g ++ ((form_fields_tail cs gs ++ close_fields semi) ++ ys)) (past i (write_called c) + 1) (g, (record { names = cs; forms = gs; semi = semi }, vs)) → (d : Dotted) × (lower_called i d ≡ c) × Reads (s.Qlid ∷ s.Take t.Equal ∷ s.Pat ∷ s.PatFields ∷ k) (write_called c ++ (mark t.Equal ∷ (write_form g ++ ((form_fields_tail cs gs ++ close_fields semi) ++ ys)))) i (d, (name (past i (write_called c)) [], (g, (record { names = cs; forms = gs; semi = semi }, vs))))
reads_first c cs g gs semi ys i k vs l p h = reads_lower c (mark t.Equal ∷ (write_form g ++ ((form_fields_tail cs gs ++ close_fields semi) ++ ys))) i (s.Take t.Equal ∷ s.Pat ∷ s.PatFields ∷ k) (name (past i (write_called c)) [], (g, (record { names = cs; forms = gs; semi = semi }, vs))) l p (rw h refl)

reads_other : (c : Called) (cs : List Called) (g : SyntaxForm) (gs : SyntaxForms) (semi : Bool) (ys : List Lexeme) (i : ℕ) (k : List Symbol) (vs : Vals k) → IsLowerName c.own → c.at ≡ i → Reads (s.Pat ∷ s.PatFields ∷ k) (write_form g ++ ((form_fields_tail cs gs ++ close_fields semi) ++ ys)) (past i (write_called c) + 1) (g, (record { names = cs; forms = gs; semi = semi }, vs)) → Reads (s.PatField ∷ k) (write_called c ++ (mark t.Equal ∷ (write_form g ++ ((form_fields_tail cs gs ++ close_fields semi) ++ ys)))) i (record { names = c ∷ cs; forms = more_forms g gs; semi = semi }, vs)
reads_other c cs g gs semi ys i k vs l p h = other_form_field c g (record { names = cs; forms = gs; semi = semi }) (mark t.Equal ∷ (write_form g ++ ((form_fields_tail cs gs ++ close_fields semi) ++ ys))) i k (name (past i (write_called c)) []) vs l p (rw h refl)

mutual
  pub reads_named : (f : SyntaxForm) (m : Option Name) (ys : List Lexeme) (i : ℕ) (k : List Symbol) (vs : Vals k) → IsForm pattern_forms f → IsPlaced i f → Stops s.Quids ys → Stops s.Patoms ys → ReadsAfter f m k ys (past i (write_form f)) vs → Reads (s.Pat ∷ k) (write_form f ++ ys) i (named_at i f m, vs)
  reads_named (wild a) m ys i k vs l p n o h = rw (h, p) refl
  reads_named (variable a x) m ys i k vs l p n o h = rw (h, p.0, sym p.1) refl
  reads_named (type_variable a w) m ys i k vs l p n o h = elim l [ ]
  reads_named (composed a c ts) m ys i k vs l p n o h = rw (append_assoc (write_called c) (form_row ts) ys, p.0, p.1) (pat_headed c.scopes c.own ts m (form_row ts ++ ys) i k vs l.0 (row_stop ts ys l.1 n) (reads_patoms ts ys (past i (write_called c)) (s.AsPart ∷ k) (m, vs) l.1 p.2 n o (rw past-append at h)))
  reads_named (enclosed a ts) m ys i k vs l p n o h = rw (p.0, reads_ptuple ts ys (i + 1) (s.AsPart ∷ k) (m, vs) l p.1 h) refl
  reads_named (aliased a g x) m ys i k vs l p n o h = rw (h.0, p.0, append_assoc (write_form g) (mark t.AsWord ∷ lx t.Lident x.text ∷ []) ys)
      (reads_named g (Some x) (mark t.AsWord ∷ lx t.Lident x.text ∷ ys) i k vs l.2 p.1 refl refl
      (after_named g (Some x) k (mark t.AsWord ∷ lx t.Lident x.text ∷ ys) (past i (write_form g)) vs l.1 (reads_as x ys (past i (write_form g)) k vs p.2 (rw past-append at h.1))))
  reads_named (fielded_form a [] no_forms semi) m ys i k vs l p n o h = elim l.1 [ ]
  reads_named (fielded_form a [] (more_forms g gs) semi) m ys i k vs l p n o h = elim l.2 [ ]
  reads_named (fielded_form a (c ∷ cs) no_forms semi) m ys i k vs l p n o h = elim l.1 [ ]
  reads_named (fielded_form a (c ∷ cs) (more_forms g gs) semi) m ys i k vs l p n o h = rw (p.0, field_tokens (write_called c) (write_form g) (form_fields_tail cs gs) (close_fields semi) ys)
      (let r = reads_first c cs g gs semi ys (i + 1) (s.AsPart ∷ k) (m, vs) l.2.0 p.1.0
      (reads_named g None ((form_fields_tail cs gs ++ close_fields semi) ++ ys) (past (i + 1) (write_called c) + 1) (s.PatFields ∷ s.AsPart ∷ k) (record { names = cs; forms = gs; semi = semi }, (m, vs)) l.3.0 p.1.1 (field_stop cs gs semi ys).quids (field_stop cs gs semi ys).patoms
      (after_plain g (s.PatFields ∷ s.AsPart ∷ k) ((form_fields_tail cs gs ++ close_fields semi) ++ ys) (past (past (i + 1) (write_called c) + 1) (write_form g)) (record { names = cs; forms = gs; semi = semi }, (m, vs)) (field_stop cs gs semi ys).as_part
      (reads_pfields cs gs semi ys (past (past (i + 1) (write_called c) + 1) (write_form g)) (s.AsPart ∷ k) (m, vs) l.2.1 l.3.1 p.1.2 (rw field_past at h)))) in
      rw r.2 (ap (λ d. Some (named_at i (fielded_form (at i) (d ∷ cs) (more_forms g gs) semi) m, vs)) r.1))

  pub reads_patom : (f : SyntaxForm) (ys : List Lexeme) (i : ℕ) (k : List Symbol) (vs : Vals k) → IsFormPart f → IsForm pattern_forms f → IsPlaced i f → Stops s.Quids ys → Reads k ys (past i (write_form f)) vs → Reads (s.Patom ∷ k) (write_form f ++ ys) i (f, vs)
  reads_patom (wild a) ys i k vs d l p n h = rw (h, p) refl
  reads_patom (variable a x) ys i k vs d l p n h = rw (h, p.0, sym p.1) refl
  reads_patom (type_variable a w) ys i k vs d l p n h = elim l [ ]
  reads_patom (composed a c no_forms) ys i k vs d l p n h = rw (append-nil, p.0, p.1) (patom_headed c.scopes c.own ys i k vs l.0 n (rw append-nil at h))
  reads_patom (composed a c (more_forms g gs)) ys i k vs d l p n h = elim d [ ]
  reads_patom (enclosed a ts) ys i k vs d l p n h = rw (p.0, reads_ptuple ts ys (i + 1) k vs l p.1 h) refl
  reads_patom (aliased a g x) ys i k vs d l p n h = elim d [ ]
  reads_patom (fielded_form a [] no_forms semi) ys i k vs d l p n h = elim l.1 [ ]
  reads_patom (fielded_form a [] (more_forms g gs) semi) ys i k vs d l p n h = elim l.2 [ ]
  reads_patom (fielded_form a (c ∷ cs) no_forms semi) ys i k vs d l p n h = elim l.1 [ ]
  reads_patom (fielded_form a (c ∷ cs) (more_forms g gs) semi) ys i k vs d l p n h = rw (p.0, field_tokens (write_called c) (write_form g) (form_fields_tail cs gs) (close_fields semi) ys)
      (let r = reads_first c cs g gs semi ys (i + 1) k vs l.2.0 p.1.0
      (reads_named g None ((form_fields_tail cs gs ++ close_fields semi) ++ ys) (past (i + 1) (write_called c) + 1) (s.PatFields ∷ k) (record { names = cs; forms = gs; semi = semi }, vs) l.3.0 p.1.1 (field_stop cs gs semi ys).quids (field_stop cs gs semi ys).patoms
      (after_plain g (s.PatFields ∷ k) ((form_fields_tail cs gs ++ close_fields semi) ++ ys) (past (past (i + 1) (write_called c) + 1) (write_form g)) (record { names = cs; forms = gs; semi = semi }, vs) (field_stop cs gs semi ys).as_part
      (reads_pfields cs gs semi ys (past (past (i + 1) (write_called c) + 1) (write_form g)) k vs l.2.1 l.3.1 p.1.2 (rw field_past at h)))) in
      rw r.2 (ap (λ d. Some (fielded_form (at i) (d ∷ cs) (more_forms g gs) semi, vs)) r.1))

  -- fields after the first one
  reads_pfields : (cs : List Called) (ps : SyntaxForms) (semi : Bool) (ys : List Lexeme) (i : ℕ) (k : List Symbol) (vs : Vals k) → AreNamedForms cs ps → AreForms pattern_forms ps → PlacedFieldForms (i + 1) cs ps → Reads k ys (past i (form_fields_tail cs ps ++ close_fields semi)) vs → Reads (s.PatFields ∷ k) ((form_fields_tail cs ps ++ close_fields semi) ++ ys) i (record { names = cs; forms = ps; semi = semi }, vs)
  reads_pfields [] no_forms true ys i k vs l m p h = rw h refl
  reads_pfields [] no_forms false ys i k vs l m p h = rw h refl
  reads_pfields [] (more_forms g gs) semi ys i k vs l m p h = elim l [ ]
  reads_pfields (c ∷ cs) no_forms semi ys i k vs l m p h = elim l [ ]
  reads_pfields (c ∷ cs) (more_forms g gs) semi ys i k vs l m p h = rw (
    field_tokens (write_called c) (write_form g) (form_fields_tail cs gs) (close_fields semi) ys,
    reads_other c cs g gs semi ys (i + 1) k vs l.0 p.0
        (reads_named g None ((form_fields_tail cs gs ++ close_fields semi) ++ ys) (past (i + 1) (write_called c) + 1) (s.PatFields ∷ k) (record { names = cs; forms = gs; semi = semi }, vs) m.0 p.1 (field_stop cs gs semi ys).quids (field_stop cs gs semi ys).patoms
        (after_plain g (s.PatFields ∷ k) ((form_fields_tail cs gs ++ close_fields semi) ++ ys) (past (past (i + 1) (write_called c) + 1) (write_form g)) (record { names = cs; forms = gs; semi = semi }, vs) (field_stop cs gs semi ys).as_part
        (reads_pfields cs gs semi ys (past (past (i + 1) (write_called c) + 1) (write_form g)) k vs l.1 m.1 p.2 (rw field_past at h)))),
  ) refl

  pub reads_patoms : (ts : SyntaxForms) (ys : List Lexeme) (i : ℕ) (k : List Symbol) (vs : Vals k) → AreParts pattern_forms ts → PlacedRow i ts → Stops s.Quids ys → Stops s.Patoms ys → Reads k ys (past i (form_row ts)) vs → Reads (s.Patoms ∷ k) (form_row ts ++ ys) i (ts, vs)
  reads_patoms no_forms ys i k vs l p n o h = passed s.Patoms no_forms k ys i vs refl refl o h
  reads_patoms (more_forms f fs) ys i k vs l p n o h = rw append_assoc (extended s.Patoms s.Patom (s.Patoms ∷ []) (λ v vs. more_forms v vs.0) [] patoms_extend (write_form f ++ (form_row fs ++ ys)) i k f (fs, vs)
      (reads_patom f (form_row fs ++ ys) i (s.Patoms ∷ k) (fs, vs) l.0 l.1 p.0 (row_stop fs ys l.2 n) (reads_patoms fs ys (past i (write_form f)) k vs l.2 p.1 n o (rw past-append at h))))

  pub reads_ptuple : (ts : SyntaxForms) (ys : List Lexeme) (i : ℕ) (k : List Symbol) (vs : Vals k) → AreForms pattern_forms ts → PlacedList i ts → Reads k ys (past i (form_list ts ++ (mark t.RParen ∷ []))) vs → Reads (s.Ptuple ∷ k) ((form_list ts ++ (mark t.RParen ∷ [])) ++ ys) i (ts, vs)
  reads_ptuple no_forms ys i k vs l p h = rw h refl
  reads_ptuple (more_forms f fs) ys i k vs l p h = rw (regroup (write_form f) (form_tail fs) (mark t.RParen ∷ []) ys) (extended s.Ptuple s.Pat (s.Pmore ∷ []) (λ v vs. more_forms v vs.0) (row s.Ptuple t.RParen [] (λ i w vs. no_forms) ∷ []) ptuple_extend (write_form f ++ ((form_tail fs ++ (mark t.RParen ∷ [])) ++ ys)) i k f (fs, vs)
      (reads_named f None ((form_tail fs ++ (mark t.RParen ∷ [])) ++ ys) i (s.Pmore ∷ k) (fs, vs) l.0 p.0 (pat_stop fs ys).quids (pat_stop fs ys).patoms (after_plain f (s.Pmore ∷ k) ((form_tail fs ++ (mark t.RParen ∷ [])) ++ ys) (past i (write_form f)) (fs, vs) (pat_stop fs ys).as_part (reads_pmore fs ys (past i (write_form f)) k vs l.1 p.1 (rw (append_assoc, past-append) at h)))))

  pub reads_pmore : (ts : SyntaxForms) (ys : List Lexeme) (i : ℕ) (k : List Symbol) (vs : Vals k) → AreForms pattern_forms ts → PlacedList (i + 1) ts → Reads k ys (past i (form_tail ts ++ (mark t.RParen ∷ []))) vs → Reads (s.Pmore ∷ k) ((form_tail ts ++ (mark t.RParen ∷ [])) ++ ys) i (ts, vs)
  reads_pmore no_forms ys i k vs l p h = rw h refl
  reads_pmore (more_forms f fs) ys i k vs l p h = rw (
    regroup (write_form f) (form_tail fs) (mark t.RParen ∷ []) ys,
    reads_named f None ((form_tail fs ++ (mark t.RParen ∷ [])) ++ ys) (i + 1) (s.Pmore ∷ k) (fs, vs) l.0 p.0 (pat_stop fs ys).quids (pat_stop fs ys).patoms (after_plain f (s.Pmore ∷ k) ((form_tail fs ++ (mark t.RParen ∷ [])) ++ ys) (past (i + 1) (write_form f)) (fs, vs) (pat_stop fs ys).as_part (reads_pmore fs ys (past (i + 1) (write_form f)) k vs l.1 p.1 (subst (λ n. Reads k ys n vs) (tail_past (write_form f) (form_tail fs) (mark t.RParen ∷ []) i) h))),
  ) refl

pub reads_pat : (f : SyntaxForm) (ys : List Lexeme) (i : ℕ) (k : List Symbol) (vs : Vals k) → IsForm pattern_forms f → IsPlaced i f → PatStops ys → Reads k ys (past i (write_form f)) vs → Reads (s.Pat ∷ k) (write_form f ++ ys) i (f, vs)
reads_pat f ys i k vs l p n h = reads_named f None ys i k vs l p n.quids n.patoms (after_plain f k ys (past i (write_form f)) vs n.as_part h)
