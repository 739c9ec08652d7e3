-- What follows where parameters are read.
use Rattle.parser.proofs.parse_decls.Common.{◌≡◌, ℕ, zero, suc, ◌+◌, ◌<◌, ◌≤◌, ◌⊎◌, inl, inr, Bool, true, false, ◌&&◌, if◌then◌else◌, List, [], ◌∷◌, ◌++◌, length, Some, None, refl, sym, ap, ◌∙◌, subst, arith, get_or_past, Terminal, Symbol, same, same_true, Name, Lexeme, at, name, SyntaxForm, SyntaxForms, called, composed, enclosed, lower, more_forms, no_forms, type_variable, ParamGroup, NamePart, ParamPart, name_before, after_paren, name_names, name_types, param, param_types, ReadingRow, Vals, row, then_row, param_own, pparen_own, rows, find, read, below_or, by_first, first_row, from_cons, from_end, stands_within, Begun, CanRead, CanRun, IsRead, begins_atype, from, nowhere, lexemes_from, terminal_at, token_at, again, and_cases, done, expand, extended, extended_due, many, many_more, missed, next, only, reread, stands, stands_by, start, unexpand, IsParam, begins_names, names_before_colon}
use Rattle.tokens_why.specs.declared.terminal.Terminal.TheVariants as t
use Rattle.grammar.specs.declared.symbols.Symbol.TheVariants as s
use Rattle.grammar.proofs.reading.Common.{no_false}
use Rattle.parser.proofs.parse_terms.Steps.{none_where}

-- names before a colon, one by one
pub names_at : (xs : List Lexeme) (j : ℕ) → j < length xs → names_before_colon (from xs j) ≡ (if same t.Lident (terminal_at xs j) then names_before_colon (from xs (j + 1)) else same t.Colon (terminal_at xs j))
names_at xs j h = ap names_before_colon (from_cons xs j h)

pub names_over : (xs : List Lexeme) (j : ℕ) → same t.Lident (terminal_at xs j) ≡ true → names_before_colon (from xs j) ≡ names_before_colon (from xs (j + 1))
names_over xs j e = names_at xs j (stands xs j t.Lident e refl) ∙ ap (λ b. if b then names_before_colon (from xs (j + 1)) else same t.Colon (terminal_at xs j)) e

-- after the names
pub names_end : (xs : List Lexeme) (j : ℕ) → same t.Lident (terminal_at xs j) ≡ false → names_before_colon (from xs j) ≡ same t.Colon (terminal_at xs j)
names_end xs j n = by_length (below_or j (length xs))
  where
    by_length : (j < length xs) ⊎ (length xs ≤ j) → names_before_colon (from xs j) ≡ same t.Colon (terminal_at xs j)
    by_length (inl h) = names_at xs j h ∙ ap (λ b. if b then names_before_colon (from xs (j + 1)) else same t.Colon (terminal_at xs j)) n
    by_length (inr h) = ap names_before_colon (from_end xs j h) ∙ sym (ap (λ v. same t.Colon v.terminal) (get_or_past xs j nowhere h))

-- A rule that may be empty is read as empty before what follows.
skip_types : (x : Lexeme) (zs : List Lexeme) (j : ℕ) (k : List Symbol) (v : Vals (s.Tmore ∷ k)) → find (rows s.Targs) x.terminal ≡ None → read (x ∷ zs) j false (s.Tmore ∷ k) ≡ Some v → read (x ∷ zs) j false (s.Targs ∷ s.Tmore ∷ k) ≡ Some (no_forms, v)
skip_types x zs j k v n e = rw (n, e) refl

-- What is read after a parenthesis and a name, where no colon comes after the names, is types.
pname_types : (n : ℕ) (xs : List Lexeme) (j : ℕ) → length xs ≤ j + n → names_before_colon (from xs j) ≡ false → (k : List Symbol) (vs : NamePart × Vals k) → read (lexemes_from xs j) j false (s.Pname ∷ k) ≡ Some vs → (us : SyntaxForms × (SyntaxForms × Vals k)) × (read (lexemes_from xs j) j false (s.Targs ∷ s.Tmore ∷ k) ≡ Some us) × ((name_types us.0 us.1.0, us.1.1) ≡ vs)
pname_types zero xs j l c k vs g = let h = stands_within xs s.Pname j k vs refl g in absurd (omega arith)
pname_types (suc n) xs j l c k vs g = by_name (same t.Lident (terminal_at xs j)) refl (pname_types n xs (j + 1) (further n j (length xs) l))
  where
    further : (n j m : ℕ) → m ≤ j + suc n → m ≤ j + 1 + n
    further n j m h = omega arith

    h : j < length xs
    h = stands_within xs s.Pname j k vs refl g

    runs : CanRun xs (λ k. s.Pname ∷ k) j
    runs = let l = h in record { within = omega arith; following = k; values = vs; reads = g }

    by_row : (y : Terminal) → same y (terminal_at xs j) ≡ true → (ra : ReadingRow s.Atype) → find (rows s.Pname) y ≡ Some (then_row s.Pname s.Atype (s.Targs ∷ s.Tmore ∷ []) (λ v vs. name_types (more_forms v vs.0) vs.1.0) ra) → find (rows s.Targs) y ≡ Some (then_row s.Targs s.Atype (s.Targs ∷ []) (λ v vs. more_forms v vs.0) ra) → (us : SyntaxForms × (SyntaxForms × Vals k)) × (read (lexemes_from xs j) j false (s.Targs ∷ s.Tmore ∷ k) ≡ Some us) × ((name_types us.0 us.1.0, us.1.1) ≡ vs)
    by_row y e ra f a = let p = first_row xs j s.Pname (then_row s.Pname s.Atype (s.Targs ∷ s.Tmore ∷ []) (λ v vs. name_types (more_forms v vs.0) vs.1.0) ra) k vs h (ap (find (rows s.Pname)) (sym (same_true y (terminal_at xs j) e)) ∙ f) g in (
      (then_row s.Targs s.Atype (s.Targs ∷ []) (λ v vs. more_forms v vs.0) ra).act (s.Tmore ∷ k) j (token_at xs j).text p.0,
      by_first xs j s.Targs (then_row s.Targs s.Atype (s.Targs ∷ []) (λ v vs. more_forms v vs.0) ra) (s.Tmore ∷ k) p.0 h (ap (find (rows s.Targs)) (sym (same_true y (terminal_at xs j) e)) ∙ a) p.1,
      p.2,
    )

    by_end : (y : Terminal) → same y (terminal_at xs j) ≡ true → (rt : ReadingRow s.Tmore) → find (rows s.Pname) y ≡ Some (then_row s.Pname s.Tmore [] (λ v vs. name_types no_forms v) rt) → find (rows s.Tmore) y ≡ Some rt → find (rows s.Targs) y ≡ None → (us : SyntaxForms × (SyntaxForms × Vals k)) × (read (lexemes_from xs j) j false (s.Targs ∷ s.Tmore ∷ k) ≡ Some us) × ((name_types us.0 us.1.0, us.1.1) ≡ vs)
    by_end y e rt f a b = let p = first_row xs j s.Pname (then_row s.Pname s.Tmore [] (λ v vs. name_types no_forms v) rt) k vs h (ap (find (rows s.Pname)) (sym (same_true y (terminal_at xs j) e)) ∙ f) g in
        let q = by_first xs j s.Tmore rt k p.0 h (ap (find (rows s.Tmore)) (sym (same_true y (terminal_at xs j) e)) ∙ a) p.1 in (
          (no_forms, rt.act k j (token_at xs j).text p.0),
          ap (λ zs. read zs j false (s.Targs ∷ s.Tmore ∷ k)) (from_cons xs j h) ∙ skip_types (token_at xs j) (lexemes_from xs (j + 1)) j k (rt.act k j (token_at xs j).text p.0) (ap (find (rows s.Targs)) (sym (same_true y (terminal_at xs j) e)) ∙ b) (sym (ap (λ zs. read zs j false (s.Tmore ∷ k)) (from_cons xs j h)) ∙ q),
          p.2,
        )

    others : same t.Lident (terminal_at xs j) ≡ false → same t.Colon (terminal_at xs j) ≡ false → (a b d e : Bool) → same t.TyVar (terminal_at xs j) ≡ a → same t.Uident (terminal_at xs j) ≡ b → same t.LParen (terminal_at xs j) ≡ d → same t.Comma (terminal_at xs j) ≡ e → (us : SyntaxForms × (SyntaxForms × Vals k)) × (read (lexemes_from xs j) j false (s.Targs ∷ s.Tmore ∷ k) ≡ Some us) × ((name_types us.0 us.1.0, us.1.1) ≡ vs)
    others m o true b d e p q r u = by_row t.TyVar p (row s.Atype t.TyVar [] (λ i w vs. type_variable (at i) w)) refl refl
    others m o false true d e p q r u = by_row t.Uident q (row s.Atype t.Uident (s.Take t.Dot ∷ s.Qlid ∷ []) (λ i w vs. composed (at i) (called i (w ∷ vs.1.0.scopes) (lower vs.1.0.last)) no_forms)) refl refl
    others m o false false true e p q r u = by_row t.LParen r (row s.Atype t.LParen (s.Ttuple ∷ []) (λ i w vs. enclosed (at i) vs.0)) refl refl
    others m o false false false true p q r u = by_end t.Comma u (row s.Tmore t.Comma (s.TypeOf ∷ s.Tmore ∷ []) (λ i w vs. more_forms vs.0 vs.1.0)) refl refl refl
    others m o false false false false p q r u = by_end t.RParen (only (start runs) t.RParen (t.Lident ∷ t.Colon ∷ t.TyVar ∷ t.Uident ∷ t.LParen ∷ t.Comma ∷ []) refl refl (m, (o, (p, (q, (r, (u, tt))))))) (row s.Tmore t.RParen [] (λ i w vs. no_forms)) refl refl refl

    by_name : (b : Bool) → same t.Lident (terminal_at xs j) ≡ b → (names_before_colon (from xs (j + 1)) ≡ false → (k : List Symbol) (vs : NamePart × Vals k) → read (lexemes_from xs (j + 1)) (j + 1) false (s.Pname ∷ k) ≡ Some vs → (us : SyntaxForms × (SyntaxForms × Vals k)) × (read (lexemes_from xs (j + 1)) (j + 1) false (s.Targs ∷ s.Tmore ∷ k) ≡ Some us) × ((name_types us.0 us.1.0, us.1.1) ≡ vs)) → (us : SyntaxForms × (SyntaxForms × Vals k)) × (read (lexemes_from xs j) j false (s.Targs ∷ s.Tmore ∷ k) ≡ Some us) × ((name_types us.0 us.1.0, us.1.1) ≡ vs)
    by_name true e ih = let p = first_row xs j s.Pname (row s.Pname t.Lident (s.Pname ∷ []) (λ i w vs. name_before i w vs.0)) k vs h (ap (find (rows s.Pname)) (sym (same_true t.Lident (terminal_at xs j) e))) g in
        let q = ih (sym (names_over xs j e) ∙ c) k p.0 p.1 in
        let ra = then_row s.Targs s.Atype (s.Targs ∷ []) (λ v vs. more_forms v vs.0) (row s.Atype t.Lident [] (λ i w vs. composed (at i) (called i [] (lower w)) no_forms)) in (
          ra.act (s.Tmore ∷ k) j (token_at xs j).text q.0,
          by_first xs j s.Targs ra (s.Tmore ∷ k) q.0 h (ap (find (rows s.Targs)) (sym (same_true t.Lident (terminal_at xs j) e))) q.1,
          ap (λ v. (name_before j (token_at xs j).text v.0, v.1)) q.2 ∙ p.2,
        )
    by_name false e ih = others e (sym (names_end xs j e) ∙ c) (same t.TyVar (terminal_at xs j)) (same t.Uident (terminal_at xs j)) (same t.LParen (terminal_at xs j)) (same t.Comma (terminal_at xs j)) refl refl refl refl

module _ {xs : List Lexeme} {i : ℕ} (c : CanRead xs s.Pparen i) where
  -- Where no names and a colon stand, types are read.
  pub listed_start : begins_names xs i ≡ false → Begun xs 0 (λ k. s.Pparen ∷ k) i (λ k. s.Ttuple ∷ k) (λ k us. (param_types us.0, us.1)) i
  listed_start n = by_name (same t.Lident (terminal_at xs i)) refl
    where
      by_name : (b : Bool) → same t.Lident (terminal_at xs i) ≡ b → Begun xs 0 (λ k. s.Pparen ∷ k) i (λ k. s.Ttuple ∷ k) (λ k us. (param_types us.0, us.1)) i
      by_name true e = let p = expand (start c) t.Lident e refl refl in
          let q : Begun xs 1 (λ k. s.Pparen ∷ k) i (λ k. s.Targs ∷ s.Tmore ∷ k) (λ k us. (after_paren i (token_at xs i).text (name_types us.0 us.1.0), us.1.1)) (i + 1) = reread p (λ k. s.Targs ∷ s.Tmore ∷ k) (λ k us. (after_paren i (token_at xs i).text (name_types us.0 us.1.0), us.1.1)) (λ k us g. (let w = pname_types (length xs) xs (i + 1) (omega arith) (subst (λ b. (b && names_before_colon (from xs (i + 1))) ≡ false) e n) k us g in (w.0, w.1, ap (λ v. (after_paren i (token_at xs i).text v.0, v.1)) w.2))) in
          unexpand s.Ttuple (λ k. k) (λ k us. (param_types us.0, us.1)) i t.Lident e refl refl (omega arith) q
      by_name false e = extended_due (start c) s.Ttuple [] (λ v vs. param_types v) pparen_own refl refl (missed (row s.Pparen t.Lident (s.Pname ∷ []) (λ i w vs. after_paren i w vs.0)) [] (terminal_at xs i) e refl)

-- names of a parameter
abbrev pub after_each : Name → NamePart → NamePart
after_each n p = name_before n.at n.text p

pub named_all : (ns : List Name) (f : SyntaxForm) → many after_each ns (name_names [] f) ≡ name_names ns f
named_all [] f = refl
named_all (n ∷ ns) f = ap (after_each n) (named_all ns f)

pub record Naming (xs : List Lexeme) (i : ℕ) (ns : List Name) (j : ℕ) : Type 0 where
  pub first : Name
  pub others : List Name
  pub spelled : first ∷ others ≡ ns
  pub names : names_before_colon (from xs j) ≡ true
  pub is : Begun xs 1 (λ k. s.Pparen ∷ k) i (λ k. s.Pname ∷ k) (λ k us. (after_paren first.at first.text (many after_each others us.0), us.1)) j

pub naming_start : {xs : List Lexeme} {i : ℕ} → CanRead xs s.Pparen i → begins_names xs i ≡ true → Naming xs i (name i (token_at xs i).text ∷ []) (i + 1)
naming_start {xs} {i} c n = let q = and_cases (same t.Lident (terminal_at xs i)) (names_before_colon (from xs (i + 1))) n in let p = expand (start c) t.Lident q.0 refl refl in record {
  first = name i (token_at xs i).text;
  others = [];
  spelled = refl;
  names = q.1;
  is = again p 1 refl (λ k us. refl);
}

module _ (xs : List Lexeme) (i : ℕ) (ns : List Name) (j : ℕ) (g : Naming xs i ns j) where
  pub naming_more : same t.Lident (terminal_at xs j) ≡ true → Naming xs i (ns ++ name j (token_at xs j).text ∷ []) (j + 1)
  naming_more e = let p = expand g.is t.Lident e refl refl in record {
    first = g.first;
    others = g.others ++ name j (token_at xs j).text ∷ [];
    spelled = ap (λ v. v ++ name j (token_at xs j).text ∷ []) g.spelled;
    names = sym (names_over xs j e) ∙ g.names;
    is = again p 1 refl (λ k us. ap (λ v. (after_paren g.first.at g.first.text v, us.1)) (many_more after_each g.others (name j (token_at xs j).text) us.0));
  }

  module _ (n : same t.Lident (terminal_at xs j) ≡ false) where
    colon_there : same t.Colon (terminal_at xs j) ≡ true
    colon_there = sym (names_end xs j n) ∙ g.names

    pub type_start : Begun xs 1 (λ k. s.Pparen ∷ k) i (λ k. s.TypeOf ∷ s.Take t.RParen ∷ k) (λ k us. (after_paren g.first.at g.first.text (many after_each g.others (name_names [] us.0)), us.1.1)) (j + 1)
    type_start = let p = expand g.is t.Colon colon_there refl refl in again p 1 refl (λ k us. refl)

-- a parameter, or fields of one type
module _ {xs : List Lexeme} {i : ℕ} (c : CanRead xs s.Param i) where
  pub paren_start : same t.LParen (terminal_at xs i) ≡ true → Begun xs 1 (λ k. s.Param ∷ k) i (λ k. s.Pparen ∷ k) (λ k us. (param i us.0, us.1)) (i + 1)
  paren_start e = let p = expand (start c) t.LParen e refl refl in again p 1 refl (λ k us. refl)

  pub paren_param : (v : ParamPart) (m : ℕ) → same t.LParen (terminal_at xs i) ≡ true → IsRead xs s.Pparen (i + 1) v m → IsParam xs i (param i v) m
  paren_param v m e r = done (next (paren_start e) r) (param i v) refl (λ k us. refl)

  pub single_start : same t.LParen (terminal_at xs i) ≡ false → Begun xs 0 (λ k. s.Param ∷ k) i (λ k. s.Atype ∷ k) (λ k us. (record { names = []; of_type = us.0 }, us.1)) i
  single_start n = extended_due (start c) s.Atype [] (λ v vs. record { names = []; of_type = v }) param_own refl refl (missed (row s.Param t.LParen (s.Pparen ∷ []) (λ i w vs. param i vs.0)) [] (terminal_at xs i) n refl)

-- parameters
abbrev pub Params : List Lexeme → ℕ → List ParamGroup → ℕ → Type 0
Params xs i ps j = Begun xs 0 (λ k. s.Params ∷ k) i (λ k. s.Params ∷ k) (λ k us. (ps ++ us.0, us.1)) j

module _ (xs : List Lexeme) (i : ℕ) (ps : List ParamGroup) (j : ℕ) (g : Params xs i ps j) where
  pub params_item : begins_atype (terminal_at xs j) ≡ true → Begun xs 0 (λ k. s.Params ∷ k) i (λ k. s.Param ∷ s.Params ∷ k) (λ k us. (ps ++ us.0 ∷ us.1.0, us.1.1)) j
  params_item e = extended g s.Param (s.Params ∷ []) (λ v vs. v ∷ vs.0) [] refl (stands_by begins_atype xs j refl e) refl (params_some (terminal_at xs j) e)
    where
      params_some : (x : Terminal) → begins_atype x ≡ true → find (rows s.Params) x ≡ None → ⊥
      params_some t.TyVar h e = cc
      params_some t.Lident h e = cc
      params_some t.Uident h e = cc
      params_some t.LParen h e = cc
      params_some _ h e = no_false h

pub params_none : (x : Terminal) → begins_atype x ≡ false → find (rows s.Params) x ≡ None
params_none x h = none_where (rows s.Params) begins_atype (t.TyVar ∷ t.Lident ∷ t.Uident ∷ t.LParen ∷ []) x refl refl h
