-- What follows where the fields of a record are read.
use Rattle.parser.proofs.parse_terms.Common.{◌≡◌, ℕ, ◌+◌, ◌≤◌, Bool, true, false, not, ◌&&◌, if◌then◌else◌, List, [], ◌∷◌, ◌++◌, refl, sym, ap, ◌∙◌, subst, arith, Terminal, Symbol, same, Lexeme, at, name, no_forms, none, accessed, lower_called, Vals, Begun, CanRead, CanRun, IsRead, IsReadPlain, terminal_at, token_at}
use Rattle.tokens_why.specs.declared.terminal.Terminal.TheVariants as t
use Rattle.grammar.specs.declared.symbols.Symbol.TheVariants as s
use Rattle.grammar.specs.reading.Parts.{FormFields, TreeFields, next_form, next_field_tree, record_form, record_tree}
use Rattle.surface.specs.Forms.{fielded_form}
use Rattle.surface.specs.Trees.{fielded_tree}
use Rattle.surface.specs.Surface.{FormPart, TreePart, form_names, form_values, tree_names, tree_values}
use Rattle.parser.specs.parse_terms.Reading.{goes_on_with_field}
use Rattle.parser.specs.parse_terms.Records.{IsReadFormField, IsReadTreeField}
use Rattle.parser.proofs.parse_terms.Steps.{again, can_run, done, expand, next, next_expr, only, run_over, start, take, unexpand}
use Rattle.parser.proofs.parse_terms.TermSteps.{sure}

-- where fields go on, and where they end after a semicolon
pub on_field : (x y : Terminal) → goes_on_with_field x y ≡ true → (same t.Semi x ≡ true) × (same t.RBrace y ≡ false)
on_field x y h = by_tests (same t.Semi x) (same t.RBrace y) h
  where
    by_tests : (b d : Bool) → (b && not d) ≡ true → (b ≡ true) × (d ≡ false)
    by_tests true false h = (refl, refl)
    by_tests true true h = cc
    by_tests false d h = cc

pub off_field : (x y : Terminal) → same t.Semi x ≡ true → goes_on_with_field x y ≡ false → same t.RBrace y ≡ true
off_field x y e h = by_test (same t.RBrace y) (subst (λ b. (b && not (same t.RBrace y)) ≡ false) e h)
  where
    by_test : (b : Bool) → (true && not b) ≡ false → b ≡ true
    by_test true h = refl
    by_test false h = cc

-- ---- of patterns

abbrev before_forms : List FormPart → FormFields → FormFields
before_forms [] r = r
before_forms (f ∷ fs) r = next_form f.name f.form (before_forms fs r)

before_form : (fs : List FormPart) (f : FormPart) (r : FormFields) → before_forms fs (next_form f.name f.form r) ≡ before_forms (fs ++ f ∷ []) r
before_form [] f r = refl
before_form (g ∷ fs) f r = ap (next_form g.name g.form) (before_form fs f r)

abbrev last_forms : Bool → FormFields
last_forms semi = record { names = []; forms = no_forms; semi = semi }

before_is : (fs : List FormPart) (semi : Bool) → before_forms fs (last_forms semi) ≡ record { names = form_names fs; forms = form_values fs; semi = semi }
before_is [] semi = refl
before_is (f ∷ fs) semi = ap (next_form f.name f.form) (before_is fs semi)

-- a field, where one is to be read
module _ {xs : List Lexeme} {n : ℕ} {from : List Symbol → List Symbol} {i : ℕ} {K : List Symbol → List Symbol} {act : (k : List Symbol) → Vals (s.Qlid ∷ s.Take t.Equal ∷ s.Pat ∷ K k) → Vals (from k)} {j : ℕ} (g : Begun xs n from i (λ k. s.Qlid ∷ s.Take t.Equal ∷ s.Pat ∷ K k) act j) where
  pub form_field_can : CanRun xs (λ k. s.Qlid ∷ s.Take t.Equal ∷ s.Pat ∷ k) j
  form_field_can = run_over {from = λ k. s.Qlid ∷ s.Take t.Equal ∷ s.Pat ∷ k} K (can_run g)

  form_field_read : (f : FormPart) (m : ℕ) (r : IsReadFormField xs j f m) → Begun xs 1 from i K (λ k us. act k (r.name, (name r.middle (token_at xs r.middle).text, (f.form, us)))) m
  form_field_read f m r = again (next (take (next g r.is)) r.value) 1 refl (λ k us. refl)

-- fields were read, and others may follow
pub record FormsFrom (xs : List Lexeme) (i : ℕ) (fs : List FormPart) (j : ℕ) : Type 0 where
  pub first : FormPart
  pub others : List FormPart
  pub spelled : first ∷ others ≡ fs
  pub is : Begun xs 1 (λ k. s.Patom ∷ k) i (λ k. s.PatFields ∷ k) (λ k us. (record_form i first.name first.form (before_forms others us.0), us.1)) j

module _ {xs : List Lexeme} {i : ℕ} (c : CanRead xs s.Patom i) (e : same t.LBrace (terminal_at xs i) ≡ true) where
  pub form_opened : Begun xs 1 (λ k. s.Patom ∷ k) i (λ k. s.Qlid ∷ s.Take t.Equal ∷ s.Pat ∷ s.PatFields ∷ k) (λ k us. (record_form i (lower_called (i + 1) us.0) us.1.1.0 us.1.1.1.0, us.1.1.1.1)) (i + 1)
  form_opened = again (expand (start c) t.LBrace e refl refl) 1 refl (λ k us. refl)

  pub forms_start : (f : FormPart) (m : ℕ) → IsReadFormField xs (i + 1) f m → FormsFrom xs i (f ∷ []) m
  forms_start f m r = record { first = f; others = []; spelled = refl; is = again (form_field_read {K = λ k. s.PatFields ∷ k} form_opened f m r) 1 refl (λ k us. ap (λ c. (record_form i c f.form us.0, us.1)) r.named) }

module _ (xs : List Lexeme) (i : ℕ) (fs : List FormPart) (j : ℕ) (g : FormsFrom xs i fs j) where
  form_semi : same t.Semi (terminal_at xs j) ≡ true → Begun xs 1 (λ k. s.Patom ∷ k) i (λ k. s.PatField ∷ k) (λ k us. (record_form i g.first.name g.first.form (before_forms g.others us.0), us.1)) (j + 1)
  form_semi e = again (expand g.is t.Semi e refl refl) 1 refl (λ k us. refl)

  pub form_item : goes_on_with_field (terminal_at xs j) (terminal_at xs (j + 1)) ≡ true → Begun xs 1 (λ k. s.Patom ∷ k) i (λ k. s.Qlid ∷ s.Take t.Equal ∷ s.Pat ∷ s.PatFields ∷ k) (λ k us. (record_form i g.first.name g.first.form (before_forms g.others (next_form (lower_called (j + 1) us.0) us.1.1.0 us.1.1.1.0)), us.1.1.1.1)) (j + 1)
  form_item h = by_upper (same t.Uident (terminal_at xs (j + 1))) refl
    where
      on : (same t.Semi (terminal_at xs j) ≡ true) × (same t.RBrace (terminal_at xs (j + 1)) ≡ false)
      on = on_field (terminal_at xs j) (terminal_at xs (j + 1)) h

      ahead : i + 1 ≤ j
      ahead = g.is.ahead

      by_upper : (b : Bool) → same t.Uident (terminal_at xs (j + 1)) ≡ b → Begun xs 1 (λ k. s.Patom ∷ k) i (λ k. s.Qlid ∷ s.Take t.Equal ∷ s.Pat ∷ s.PatFields ∷ k) (λ k us. (record_form i g.first.name g.first.form (before_forms g.others (next_form (lower_called (j + 1) us.0) us.1.1.0 us.1.1.1.0)), us.1.1.1.1)) (j + 1)
      by_upper true e = let p = expand (form_semi on.0) t.Uident e refl refl in sure 1 (unexpand s.Qlid (λ k. s.Take t.Equal ∷ s.Pat ∷ s.PatFields ∷ k) (λ k us. (record_form i g.first.name g.first.form (before_forms g.others (next_form (lower_called (j + 1) us.0) us.1.1.0 us.1.1.1.0)), us.1.1.1.1)) (j + 1) t.Uident e refl refl (omega (arith, ahead)) p) (omega (arith, ahead))
      by_upper false e = let f = only (form_semi on.0) t.Lident (t.RBrace ∷ t.Uident ∷ []) refl refl (on.1, (e, tt)) in let p = expand (form_semi on.0) t.Lident f refl refl in sure 1 (unexpand s.Qlid (λ k. s.Take t.Equal ∷ s.Pat ∷ s.PatFields ∷ k) (λ k us. (record_form i g.first.name g.first.form (before_forms g.others (next_form (lower_called (j + 1) us.0) us.1.1.0 us.1.1.1.0)), us.1.1.1.1)) (j + 1) t.Lident f refl refl (omega (arith, ahead)) p) (omega (arith, ahead))

  pub forms_more : goes_on_with_field (terminal_at xs j) (terminal_at xs (j + 1)) ≡ true → (f : FormPart) (m : ℕ) → IsReadFormField xs (j + 1) f m → FormsFrom xs i (fs ++ f ∷ []) m
  forms_more h f m r = record {
    first = g.first;
    others = g.others ++ f ∷ [];
    spelled = ap (λ v. v ++ f ∷ []) g.spelled;
    is = again (form_field_read {K = λ k. s.PatFields ∷ k} (form_item h) f m r) 1 refl (λ k us. ap (λ v. (record_form i g.first.name g.first.form v, us.1)) (ap (λ c. before_forms g.others (next_form c f.form us.0)) r.named ∙ before_form g.others f us.0));
  }

  form_whole : (semi : Bool) → record_form i g.first.name g.first.form (before_forms g.others (last_forms semi)) ≡ fielded_form (at i) (form_names fs) (form_values fs) semi
  form_whole semi = ap (record_form i g.first.name g.first.form) (before_is g.others semi) ∙ ap (λ v. fielded_form (at i) (form_names v) (form_values v) semi) g.spelled

  -- the other brace, after a semicolon or not
  pub forms_closed : goes_on_with_field (terminal_at xs j) (terminal_at xs (j + 1)) ≡ false → (b : Bool) (m : ℕ) → b ≡ same t.Semi (terminal_at xs j) → m ≡ (if b then j + 1 else j) → IsRead xs s.Patom i (fielded_form (at i) (form_names fs) (form_values fs) b) (m + 1)
  forms_closed h true m e q = subst (λ v. IsRead xs s.Patom i (fielded_form (at i) (form_names fs) (form_values fs) true) (v + 1)) (sym q)
      (done (expand (form_semi (sym e)) t.RBrace (off_field (terminal_at xs j) (terminal_at xs (j + 1)) (sym e) h) refl refl) (fielded_form (at i) (form_names fs) (form_values fs) true) refl (λ k us. ap (λ v. (v, us)) (form_whole true)))
  forms_closed h false m e q = subst (λ v. IsRead xs s.Patom i (fielded_form (at i) (form_names fs) (form_values fs) false) (v + 1)) (sym q)
      (done (expand g.is t.RBrace (only g.is t.RBrace (t.Semi ∷ []) refl refl (sym e, tt)) refl refl) (fielded_form (at i) (form_names fs) (form_values fs) false) refl (λ k us. ap (λ v. (v, us)) (form_whole false)))

-- ---- of terms

abbrev before_trees : List TreePart → TreeFields → TreeFields
before_trees [] r = r
before_trees (f ∷ fs) r = next_field_tree f.name f.tree (before_trees fs r)

before_tree : (fs : List TreePart) (f : TreePart) (r : TreeFields) → before_trees fs (next_field_tree f.name f.tree r) ≡ before_trees (fs ++ f ∷ []) r
before_tree [] f r = refl
before_tree (g ∷ fs) f r = ap (next_field_tree g.name g.tree) (before_tree fs f r)

abbrev last_trees : Bool → TreeFields
last_trees semi = record { names = []; trees = none; semi = semi }

before_all : (fs : List TreePart) (semi : Bool) → before_trees fs (last_trees semi) ≡ record { names = tree_names fs; trees = tree_values fs; semi = semi }
before_all [] semi = refl
before_all (f ∷ fs) semi = ap (next_field_tree f.name f.tree) (before_all fs semi)

-- a field, where one is to be read
module _ {xs : List Lexeme} {n : ℕ} {from : List Symbol → List Symbol} {i : ℕ} {K : List Symbol → List Symbol} {act : (k : List Symbol) → Vals (s.Qlid ∷ s.Take t.Equal ∷ s.Expr 0 ∷ s.ExprFields ∷ K k) → Vals (from k)} {j : ℕ} (g : Begun xs n from i (λ k. s.Qlid ∷ s.Take t.Equal ∷ s.Expr 0 ∷ s.ExprFields ∷ K k) act j) where
  pub tree_field_can : CanRun xs (λ k. s.Qlid ∷ s.Take t.Equal ∷ s.Expr 0 ∷ k) j
  tree_field_can = run_over {from = λ k. s.Qlid ∷ s.Take t.Equal ∷ s.Expr 0 ∷ k} (λ k. s.ExprFields ∷ K k) (can_run g)

  tree_field_read : (f : TreePart) (m : ℕ) (r : IsReadTreeField xs j f m) → Begun xs 1 from i (λ k. s.ExprFields ∷ K k) (λ k us. act k (r.name, (name r.middle (token_at xs r.middle).text, (f.tree, us)))) m
  tree_field_read f m r = again (next_expr (take (next g r.is)) refl r.value) 1 refl (λ k us. refl)

-- fields were read, and others may follow
pub record TreesFrom (xs : List Lexeme) (i : ℕ) (fs : List TreePart) (j : ℕ) : Type 0 where
  pub first : TreePart
  pub others : List TreePart
  pub spelled : first ∷ others ≡ fs
  pub is : Begun xs 1 (λ k. s.Atom ∷ k) i (λ k. s.ExprFields ∷ s.Dots ∷ k) (λ k us. (accessed i (record_tree i first.name first.tree (before_trees others us.0)) us.1.0, us.1.1)) j

module _ {xs : List Lexeme} {i : ℕ} (c : CanRead xs s.Atom i) (e : same t.LBrace (terminal_at xs i) ≡ true) where
  pub tree_opened : Begun xs 1 (λ k. s.Atom ∷ k) i (λ k. s.Qlid ∷ s.Take t.Equal ∷ s.Expr 0 ∷ s.ExprFields ∷ s.Dots ∷ k) (λ k us. (accessed i (record_tree i (lower_called (i + 1) us.0) us.1.1.0 us.1.1.1.0) us.1.1.1.1.0, us.1.1.1.1.1)) (i + 1)
  tree_opened = again (expand (start c) t.LBrace e refl refl) 1 refl (λ k us. refl)

  pub trees_start : (f : TreePart) (m : ℕ) → IsReadTreeField xs (i + 1) f m → TreesFrom xs i (f ∷ []) m
  trees_start f m r = record { first = f; others = []; spelled = refl; is = again (tree_field_read {K = λ k. s.Dots ∷ k} tree_opened f m r) 1 refl (λ k us. ap (λ c. (accessed i (record_tree i c f.tree us.0) us.1.0, us.1.1)) r.named) }

module _ (xs : List Lexeme) (i : ℕ) (fs : List TreePart) (j : ℕ) (g : TreesFrom xs i fs j) where
  tree_semi : same t.Semi (terminal_at xs j) ≡ true → Begun xs 1 (λ k. s.Atom ∷ k) i (λ k. s.ExprField ∷ s.Dots ∷ k) (λ k us. (accessed i (record_tree i g.first.name g.first.tree (before_trees g.others us.0)) us.1.0, us.1.1)) (j + 1)
  tree_semi e = again (expand g.is t.Semi e refl refl) 1 refl (λ k us. refl)

  pub tree_item : goes_on_with_field (terminal_at xs j) (terminal_at xs (j + 1)) ≡ true → Begun xs 1 (λ k. s.Atom ∷ k) i (λ k. s.Qlid ∷ s.Take t.Equal ∷ s.Expr 0 ∷ s.ExprFields ∷ s.Dots ∷ k) (λ k us. (accessed i (record_tree i g.first.name g.first.tree (before_trees g.others (next_field_tree (lower_called (j + 1) us.0) us.1.1.0 us.1.1.1.0))) us.1.1.1.1.0, us.1.1.1.1.1)) (j + 1)
  tree_item h = by_upper (same t.Uident (terminal_at xs (j + 1))) refl
    where
      on : (same t.Semi (terminal_at xs j) ≡ true) × (same t.RBrace (terminal_at xs (j + 1)) ≡ false)
      on = on_field (terminal_at xs j) (terminal_at xs (j + 1)) h

      ahead : i + 1 ≤ j
      ahead = g.is.ahead

      by_upper : (b : Bool) → same t.Uident (terminal_at xs (j + 1)) ≡ b → Begun xs 1 (λ k. s.Atom ∷ k) i (λ k. s.Qlid ∷ s.Take t.Equal ∷ s.Expr 0 ∷ s.ExprFields ∷ s.Dots ∷ k) (λ k us. (accessed i (record_tree i g.first.name g.first.tree (before_trees g.others (next_field_tree (lower_called (j + 1) us.0) us.1.1.0 us.1.1.1.0))) us.1.1.1.1.0, us.1.1.1.1.1)) (j + 1)
      by_upper true e = let p = expand (tree_semi on.0) t.Uident e refl refl in sure 1 (unexpand s.Qlid (λ k. s.Take t.Equal ∷ s.Expr 0 ∷ s.ExprFields ∷ s.Dots ∷ k) (λ k us. (accessed i (record_tree i g.first.name g.first.tree (before_trees g.others (next_field_tree (lower_called (j + 1) us.0) us.1.1.0 us.1.1.1.0))) us.1.1.1.1.0, us.1.1.1.1.1)) (j + 1) t.Uident e refl refl (omega (arith, ahead)) p) (omega (arith, ahead))
      by_upper false e = let f = only (tree_semi on.0) t.Lident (t.RBrace ∷ t.Uident ∷ []) refl refl (on.1, (e, tt)) in let p = expand (tree_semi on.0) t.Lident f refl refl in sure 1 (unexpand s.Qlid (λ k. s.Take t.Equal ∷ s.Expr 0 ∷ s.ExprFields ∷ s.Dots ∷ k) (λ k us. (accessed i (record_tree i g.first.name g.first.tree (before_trees g.others (next_field_tree (lower_called (j + 1) us.0) us.1.1.0 us.1.1.1.0))) us.1.1.1.1.0, us.1.1.1.1.1)) (j + 1) t.Lident f refl refl (omega (arith, ahead)) p) (omega (arith, ahead))

  pub trees_more : goes_on_with_field (terminal_at xs j) (terminal_at xs (j + 1)) ≡ true → (f : TreePart) (m : ℕ) → IsReadTreeField xs (j + 1) f m → TreesFrom xs i (fs ++ f ∷ []) m
  trees_more h f m r = record {
    first = g.first;
    others = g.others ++ f ∷ [];
    spelled = ap (λ v. v ++ f ∷ []) g.spelled;
    is = again (tree_field_read {K = λ k. s.Dots ∷ k} (tree_item h) f m r) 1 refl (λ k us. ap (λ v. (accessed i (record_tree i g.first.name g.first.tree v) us.1.0, us.1.1)) (ap (λ c. before_trees g.others (next_field_tree c f.tree us.0)) r.named ∙ before_tree g.others f us.0));
  }

  tree_whole : (semi : Bool) → record_tree i g.first.name g.first.tree (before_trees g.others (last_trees semi)) ≡ fielded_tree (at i) (tree_names fs) (tree_values fs) semi
  tree_whole semi = ap (record_tree i g.first.name g.first.tree) (before_all g.others semi) ∙ ap (λ v. fielded_tree (at i) (tree_names v) (tree_values v) semi) g.spelled

  -- the other brace, after a semicolon or not
  pub trees_closed : goes_on_with_field (terminal_at xs j) (terminal_at xs (j + 1)) ≡ false → (b : Bool) (m : ℕ) → b ≡ same t.Semi (terminal_at xs j) → m ≡ (if b then j + 1 else j) → IsReadPlain xs i (fielded_tree (at i) (tree_names fs) (tree_values fs) b) (m + 1)
  trees_closed h true m e q = subst (λ v. IsReadPlain xs i (fielded_tree (at i) (tree_names fs) (tree_values fs) true) (v + 1)) (sym q)
      (record { first = refl; closed = refl; is = again (expand (tree_semi (sym e)) t.RBrace (off_field (terminal_at xs j) (terminal_at xs (j + 1)) (sym e) h) refl refl) 1 refl (λ k us. ap (λ v. (accessed i v us.0, us.1)) (tree_whole true)) })
  trees_closed h false m e q = subst (λ v. IsReadPlain xs i (fielded_tree (at i) (tree_names fs) (tree_values fs) false) (v + 1)) (sym q)
      (record { first = refl; closed = refl; is = again (expand g.is t.RBrace (only g.is t.RBrace (t.Semi ∷ []) refl refl (sym e, tt)) refl refl) 1 refl (λ k us. ap (λ v. (accessed i v us.0, us.1)) (tree_whole false)) })
