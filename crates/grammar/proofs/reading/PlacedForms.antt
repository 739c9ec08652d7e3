-- Each right type and pattern can be placed: one with the same tokens has its places.
use Rattle.grammar.proofs.reading.Common.{◌≡◌, ℕ, ◌+◌, List, [], ◌∷◌, ◌++◌, refl, ap, ◌∙◌, Lexeme, at, mark, name, AreForms, AreParts, Called, SyntaxForm, SyntaxForms, IsForm, IsFormPart, IsPlaced, IsUnnamed, PlacedList, PlacedRow, FormKind, aliased, called, composed, enclosed, form_list, form_row, form_tail, more_forms, no_forms, past, type_variable, variable, wild, write_called, write_form, HasForm, AreNamedForms, PlacedFieldForms, fielded_form, form_fields, form_fields_tail}
use Rattle.tokens_why.specs.declared.terminal.Terminal.TheVariants as t

pub join : {xs ys us vs : List Lexeme} → xs ≡ ys → us ≡ vs → xs ++ us ≡ ys ++ vs
join {ys = ys} {us = us} e f = ap (λ v. v ++ us) e ∙ ap (λ v. ys ++ v) f

pub following : {xs ys : List Lexeme} → (x : Lexeme) → xs ≡ ys → x ∷ xs ≡ x ∷ ys
following x e = ap (λ v. x ∷ v) e

-- A right value with the same tokens and with its places.
pub record Put {V : Type 0} (is stands : V → Type 0) (write : V → List Lexeme) (v : V) : Type 0 where
  pub value : V
  pub right : is value
  pub placed : stands value
  pub tokens : write value ≡ write v

-- A right row of values with the same tokens, as the first of a row and after others, and with its places; it has some where
-- the given one has.
pub record PutList {V : Type 0} (is stands has : V → Type 0) (write others : V → List Lexeme) (v : V) : Type 0 where
  pub value : V
  pub right : is value
  pub placed : stands value
  pub tokens : write value ≡ write v
  pub tail : others value ≡ others v
  pub some : has v → has value

abbrev pub moved : ℕ → Called → Called
moved i c = called i c.scopes c.own

pub record FormAt (s : FormKind) (i : ℕ) (f : SyntaxForm) : Type 0 where
  pub form : SyntaxForm
  pub right : IsForm s form
  pub placed : IsPlaced i form
  pub tokens : write_form form ≡ write_form f
  pub part : IsFormPart f → IsFormPart form
  pub unnamed : IsUnnamed f → IsUnnamed form

-- names, each with its form, by themselves and after others
pub record FieldFormsAt (s : FormKind) (i : ℕ) (cs : List Called) (ps : SyntaxForms) : Type 0 where
  pub names : List Called
  pub values : SyntaxForms
  pub right : AreForms s values
  pub named : AreNamedForms names values
  pub placed : PlacedFieldForms i names values
  pub tokens : form_fields names values ≡ form_fields cs ps
  pub tail : form_fields_tail names values ≡ form_fields_tail cs ps
  pub some : HasForm ps → HasForm values

mutual
  pub form_at : (s : FormKind) (i : ℕ) (f : SyntaxForm) → IsForm s f → FormAt s i f
  form_at s i (wild a) h = record { form = wild (at i); right = h; placed = refl; tokens = refl; part = λ p. p; unnamed = λ p. p }
  form_at s i (variable a n) h = record { form = variable (at i) (name i n.text); right = h; placed = (refl, refl); tokens = refl; part = λ p. p; unnamed = λ p. p }
  form_at s i (type_variable a w) h = record { form = type_variable (at i) w; right = h; placed = refl; tokens = refl; part = λ p. p; unnamed = λ p. p }
  form_at s i (composed a c no_forms) h = record { form = composed (at i) (moved i c) no_forms; right = h; placed = (refl, refl, tt); tokens = refl; part = λ p. p; unnamed = λ p. p }
  form_at s i (composed a c (more_forms p ps)) h =
      let u = form_at s (past i (write_called c)) p h.1.1 in
      let r = row_at s (past (past i (write_called c)) (write_form u.form)) ps h.1.2 in
      record {
        form = composed (at i) (moved i c) (more_forms u.form r.value);
        right = (h.0, (u.part h.1.0, u.right, r.right));
        placed = (refl, refl, (u.placed, r.placed));
        tokens = ap (λ v. write_called c ++ v) (join u.tokens r.tokens);
        part = λ p. absurd p;
        unnamed = λ p. p;
      }
  form_at s i (enclosed a ts) h = let r = list_at s (i + 1) ts h in
      record { form = enclosed (at i) r.value; right = r.right; placed = (refl, r.placed); tokens = following (mark t.LParen) (ap (λ v. v ++ (mark t.RParen ∷ [])) r.tokens); part = λ p. p; unnamed = λ p. p }
  form_at s i (aliased a p n) h = let u = form_at s i p h.2 in
      record {
        form = aliased (at i) u.form (name (past i (write_form u.form) + 1) n.text);
        right = (h.0, u.unnamed h.1, u.right);
        placed = (refl, u.placed, refl);
        tokens = join u.tokens refl;
        part = λ p. absurd p;
        unnamed = λ p. absurd p;
      }
  form_at s i (fielded_form a cs ps semi) h = let r = field_forms_at s (i + 1) cs ps h.2 h.3 in
      record { form = fielded_form (at i) r.names r.values semi; right = (h.0, r.some h.1, r.named, r.right); placed = (refl, r.placed); tokens = following (mark t.LBrace) (join r.tokens refl); part = λ p. p; unnamed = λ p. p }

  field_forms_at : (s : FormKind) (i : ℕ) (cs : List Called) (ps : SyntaxForms) → AreNamedForms cs ps → AreForms s ps → FieldFormsAt s i cs ps
  field_forms_at s i [] no_forms n h = record { names = []; values = no_forms; right = tt; named = tt; placed = tt; tokens = refl; tail = refl; some = λ p. p }
  field_forms_at s i [] (more_forms p ps) n h = absurd n
  field_forms_at s i (c ∷ cs) no_forms n h = absurd n
  field_forms_at s i (c ∷ cs) (more_forms p ps) n h =
      let u = form_at s (past i (write_called c) + 1) p h.0 in
      let r = field_forms_at s (past (past i (write_called c) + 1) (write_form u.form) + 1) cs ps n.1 h.1 in
      let e = ap (λ v. write_called c ++ v) (following (mark t.Equal) (join u.tokens r.tail)) in
      record {
        names = moved i c ∷ r.names;
        values = more_forms u.form r.values;
        right = (u.right, r.right);
        named = (n.0, r.named);
        placed = (refl, u.placed, r.placed);
        tokens = e;
        tail = following (mark t.Semi) e;
        some = λ p. tt;
      }

  pub row_at : (s : FormKind) (i : ℕ) (fs : SyntaxForms) → AreParts s fs → Put (AreParts s) (PlacedRow i) form_row fs
  row_at s i no_forms h = record { value = no_forms; right = tt; placed = tt; tokens = refl }
  row_at s i (more_forms p ps) h = let u = form_at s i p h.1 in let r = row_at s (past i (write_form u.form)) ps h.2 in
      record { value = more_forms u.form r.value; right = (u.part h.0, u.right, r.right); placed = (u.placed, r.placed); tokens = join u.tokens r.tokens }

  pub list_at : (s : FormKind) (i : ℕ) (fs : SyntaxForms) → AreForms s fs → PutList (AreForms s) (PlacedList i) HasForm form_list form_tail fs
  list_at s i no_forms h = record { value = no_forms; right = tt; placed = tt; tokens = refl; tail = refl; some = λ p. p }
  list_at s i (more_forms p ps) h = let u = form_at s i p h.0 in let r = list_at s (past i (write_form u.form) + 1) ps h.1 in
      record { value = more_forms u.form r.value; right = (u.right, r.right); placed = (u.placed, r.placed); tokens = join u.tokens r.tail; tail = following (mark t.Comma) (join u.tokens r.tail); some = λ p. tt }
