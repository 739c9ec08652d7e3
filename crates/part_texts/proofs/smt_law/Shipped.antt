-- The templates of drivers/smt_syntax.drv are plain.
use Rattle.std.proofs.Common.{◌≡◌, ◌≢◌, ◌⊎◌, inl, inr, ℕ, zero, suc, ◌+◌, ◌<◌, ◌==◌, Bool, true, false, if◌then◌else◌, List, [], ◌∷◌, ◌++◌, map, length, slice_get, codes, All, Option, Some, None, IfSome, bytes_eq, refl, sym, ap, subst, ◌∙◌, append-nil, append_assoc, arith}
use Rattle.std.specs.Option.{is_some}
use Rattle.std.specs.List.{list_any}
use Rattle.std.proofs.lemmas.Slice.Eq.{bytes_eq-Decides}
use Rattle.printed_problems.specs.Problems.{is_kind}
use Rattle.std.specs.Fmt.{decimal}
use Rattle.std.proofs.lemmas.Bool.Decides.{Decides-eqb}
use Rattle.std.proofs.lemmas.Option.{get_or_from_slice_get}
use Rattle.tasks.specs.trees.declared.ints.Ints.{Ints}
use Rattle.printed_problems.specs.drivers.declared.driver_items.kinds.Piece.{Piece}
use Rattle.printed_problems.specs.drivers.declared.driver_items.kinds.Piece.TheVariants.{Literal, Argument}
use Rattle.printed_problems.specs.drivers.declared.driver_parts.driver.Driver.{Driver}
use Rattle.tasks.specs.Task.{SymbolTree, int_symbol, TaskTree, symbol_or}
use Rattle.tasks.specs.Valid.{AreInts, IsValid}
use Rattle.name_tables.specs.declared.name_entries.names.NameEntry.{NameEntry}
use Rattle.name_tables.specs.Occurrences.{Occurrence}
use Rattle.name_tables.specs.Spelling.{own_name, clean}
use Rattle.name_tables.specs.Tables.{entries_from, problem_things, problem_names}
use Rattle.printed_problems.specs.Templates.{template_in, template_of, has_template, bytes_alone}
use Rattle.part_texts.specs.smt_law.s_expressions.Sexps.{breaks}
use Rattle.part_texts.specs.smt_law.Plain.{begins_number, is_local, is_reserved, EqualityIsPlain, IsFreeWord, HasWord, is_type, arity, arity_of, IsPlainTemplate, TemplatesDiffer, ArePlain}
use Rattle.part_texts.specs.smt_law.Shipped.{ShippedRow, shipped_rows, rows_of, pieces_of, template_row, HasShippedTemplates, shipped_word, shipped_words, ShippedArePlain}
use Rattle.part_texts.proofs.smt_law.Words.{equals_free, has_underscore, name_underscore, underscore_differs}
use Rattle.part_texts.proofs.smt_law.Sound.{EachOf}

-- ---- names have `_`
names_by : (t : TaskTree) (all os : List Occurrence) (place : ℕ) → All (λ (e : NameEntry). has_underscore e.name ≡ true) (entries_from t all place os)
names_by t all [] place k d l = absurd (omega arith)
names_by t all (o ∷ os) place zero d l = name_underscore (clean (own_name (symbol_or t.symbols o.symbol).name)) (decimal place)
names_by t all (o ∷ os) place (suc k) d l = names_by t all os (place + 1) k d (omega arith)

no_name : (t : TaskTree) (w : List ℕ) → has_underscore w ≡ false → All (λ (e : NameEntry). e.name ≢ w) (problem_names t)
no_name t w h k d l = underscore_differs _ w (names_by t (problem_things t) (problem_things t) 0 k d l) h

-- ---- shapes
one_shape : (a : List ℕ) → a ++ 41 ∷ [] ≡ (a ++ []) ++ 41 ∷ []
one_shape a = ap (λ z. z ++ 41 ∷ []) (sym (append-nil a))

two_shape : (a b : List ℕ) → a ++ 32 ∷ (b ++ 41 ∷ []) ≡ (a ++ 32 ∷ (b ++ [])) ++ 41 ∷ []
two_shape a b = ap (λ z. a ++ 32 ∷ (z ++ 41 ∷ [])) (sym (append-nil b)) ∙ sym (append_assoc a (32 ∷ (b ++ [])) (41 ∷ []))

abbrev one_template : List ℕ → List Piece
one_template start = Literal start ∷ Argument 0 ∷ Literal (codes ")") ∷ []

abbrev two_template : List ℕ → List Piece
two_template start = Literal start ∷ Argument 0 ∷ Literal (codes " ") ∷ Argument 1 ∷ Literal (codes ")") ∷ []

one_word : (w : List ℕ) → HasWord (one_template ((40 ∷ w) ++ (32 ∷ []))) 1 w
one_word w [] n = absurd (omega (arith, n))
one_word w (a ∷ []) n = ap (λ z. 40 ∷ ((w ++ (32 ∷ [])) ++ z)) (one_shape a) ∙ ap (λ z. 40 ∷ z) (sym (append_assoc (w ++ (32 ∷ [])) (a ++ []) (41 ∷ [])))
one_word w (a ∷ b ∷ more) n = absurd (omega (arith, n))

two_word : (w : List ℕ) → HasWord (two_template ((40 ∷ w) ++ (32 ∷ []))) 2 w
two_word w [] n = absurd (omega (arith, n))
two_word w (a ∷ []) n = absurd (omega (arith, n))
two_word w (a ∷ b ∷ []) n = ap (λ z. 40 ∷ ((w ++ (32 ∷ [])) ++ z)) (two_shape a b) ∙ ap (λ z. 40 ∷ z) (sym (append_assoc (w ++ (32 ∷ [])) (a ++ 32 ∷ (b ++ [])) (41 ∷ [])))
two_word w (a ∷ b ∷ c ∷ more) n = absurd (omega (arith, n))

int_shape : HasWord (Literal (codes "Int") ∷ []) 0 (codes "Int")
int_shape [] n = refl
int_shape (a ∷ more) n = absurd (omega (arith, n))

free : (w : List ℕ) → (0 < length w) → list_any breaks w ≡ false → begins_number w ≡ false → is_local w ≡ false → is_reserved w ≡ false → IsFreeWord w
free w s b n l r = record { proper = record { some = s; whole = b }; no_number = n; no_local = l; no_syntax = r }

-- the row with a word and a number of arguments
abbrev entry_by : List ShippedRow → ℕ → List ℕ → ℕ
entry_by [] n w = 0
entry_by (r ∷ rs) n w = if r.arity == n then (if bytes_eq r.word w then r.entry else entry_by rs n w) else entry_by rs n w

-- ---- a row
pub record IsGoodRow (t : TaskTree) (rs : List ShippedRow) (r : ShippedRow) : Type 0 where
  pub kind : is_type t.symbols r.entry ≡ false
  pub vars : (symbol_or t.symbols r.entry).vars ≡ 0
  pub fits : arity t.symbols r.entry ≡ r.arity
  pub shape : HasWord (pieces_of r.string r.arity) r.arity r.word
  pub word : IsFreeWord r.word
  pub plain : has_underscore r.word ≡ false
  pub no_equals : r.word ≢ codes "="
  pub told : entry_by rs r.arity r.word ≡ r.entry

module _ (t : TaskTree) where
  entry_is : (k : ℕ) (e : SymbolTree) → slice_get t.symbols k ≡ Some e → symbol_or t.symbols k ≡ e
  entry_is k e h = get_or_from_slice_get t.symbols k e int_symbol h

  kind_of : (k : ℕ) (e : SymbolTree) → slice_get t.symbols k ≡ Some e → (b : Bool) → is_kind e.kind ≡ b → is_type t.symbols k ≡ b
  kind_of k e h b q = ap (λ (x : SymbolTree). is_kind x.kind) (entry_is k e h) ∙ q

  vars_of : (k : ℕ) (e : SymbolTree) → slice_get t.symbols k ≡ Some e → e.vars ≡ 0 → (symbol_or t.symbols k).vars ≡ 0
  vars_of k e h q = ap (λ (x : SymbolTree). x.vars) (entry_is k e h) ∙ q

  arity_is : (k : ℕ) (e : SymbolTree) (n : ℕ) → slice_get t.symbols k ≡ Some e → arity_of e ≡ n → arity t.symbols k ≡ n
  arity_is k e n h q = ap arity_of (entry_is k e h) ∙ q

  other_word : (w v : List ℕ) → bytes_eq w v ≡ false → w ≢ v
  other_word w v h e = let q : true ≡ false = sym ((bytes_eq-Decides w v).1 e) ∙ h in absurd (cc)

  good_rows : (z : Ints) → AreInts t.symbols z → EachOf (IsGoodRow t (shipped_rows z)) (shipped_rows z)
  good_rows z a = (
    record { kind = kind_of z.neg _ a.neg false refl; vars = vars_of z.neg _ a.neg refl; fits = arity_is z.neg _ 1 a.neg refl; shape = one_word (codes "-"); word = free (codes "-") (omega arith) refl refl refl refl; plain = refl; no_equals = other_word (codes "-") (codes "=") refl; told = refl },
    (
      record { kind = kind_of z.add _ a.add false refl; vars = vars_of z.add _ a.add refl; fits = arity_is z.add _ 2 a.add refl; shape = two_word (codes "+"); word = free (codes "+") (omega arith) refl refl refl refl; plain = refl; no_equals = other_word (codes "+") (codes "=") refl; told = refl },
      (
        record { kind = kind_of z.sub _ a.sub false refl; vars = vars_of z.sub _ a.sub refl; fits = arity_is z.sub _ 2 a.sub refl; shape = two_word (codes "-"); word = free (codes "-") (omega arith) refl refl refl refl; plain = refl; no_equals = other_word (codes "-") (codes "=") refl; told = refl },
        (
          record { kind = kind_of z.mul _ a.mul false refl; vars = vars_of z.mul _ a.mul refl; fits = arity_is z.mul _ 2 a.mul refl; shape = two_word (codes "*"); word = free (codes "*") (omega arith) refl refl refl refl; plain = refl; no_equals = other_word (codes "*") (codes "=") refl; told = refl },
          (
            record { kind = kind_of z.lt _ a.lt false refl; vars = vars_of z.lt _ a.lt refl; fits = arity_is z.lt _ 2 a.lt refl; shape = two_word (codes "<"); word = free (codes "<") (omega arith) refl refl refl refl; plain = refl; no_equals = other_word (codes "<") (codes "=") refl; told = refl },
            (
              record { kind = kind_of z.le _ a.le false refl; vars = vars_of z.le _ a.le refl; fits = arity_is z.le _ 2 a.le refl; shape = two_word (codes "<="); word = free (codes "<=") (omega arith) refl refl refl refl; plain = refl; no_equals = other_word (codes "<=") (codes "=") refl; told = refl },
              (
                record { kind = kind_of z.gt _ a.gt false refl; vars = vars_of z.gt _ a.gt refl; fits = arity_is z.gt _ 2 a.gt refl; shape = two_word (codes ">"); word = free (codes ">") (omega arith) refl refl refl refl; plain = refl; no_equals = other_word (codes ">") (codes "=") refl; told = refl },
                (
                  record { kind = kind_of z.ge _ a.ge false refl; vars = vars_of z.ge _ a.ge refl; fits = arity_is z.ge _ 2 a.ge refl; shape = two_word (codes ">="); word = free (codes ">=") (omega arith) refl refl refl refl; plain = refl; no_equals = other_word (codes ">=") (codes "=") refl; told = refl },
                  tt,
                ),
              ),
            ),
          ),
        ),
      ),
    ),
  )

  good_of : (ints : Option Ints) → IfSome ints (AreInts t.symbols) → EachOf (IsGoodRow t (rows_of ints)) (rows_of ints)
  good_of None a = tt
  good_of (Some z) a = good_rows z a

  -- ---- a template
  pub record IsGoodTemplate (rs : List ShippedRow) (k : ℕ) (w : List ℕ) (pieces : List Piece) : Type 0 where
    pub kind : is_type t.symbols k ≡ false
    pub plain : IsPlainTemplate t.symbols (problem_names t) w k pieces
    pub told : entry_by rs (arity t.symbols k) w ≡ k

  good_here : (all : List ShippedRow) (r : ShippedRow) (k : ℕ) (pieces : List Piece) → IsGoodRow t all r → r.entry ≡ k → Some (pieces_of r.string r.arity) ≡ Some pieces → IsGoodTemplate all k r.word pieces
  good_here all r k pieces g e s =
      let same : pieces_of r.string r.arity ≡ pieces = cc in
      let many : r.arity ≡ arity t.symbols k = sym g.fits ∙ ap (arity t.symbols) e in
      record {
        kind = ap (is_type t.symbols) (sym e) ∙ g.kind;
        plain = record {
          vars = ap (λ (j : ℕ). (symbol_or t.symbols j).vars) (sym e) ∙ g.vars;
          shape = subst (λ (n : ℕ). HasWord pieces n r.word) many (subst (λ (ps : List Piece). HasWord ps r.arity r.word) same g.shape);
          plain = record { free = g.word; no_name = no_name t r.word g.plain };
          no_equality = g.no_equals;
        };
        told = ap (λ (n : ℕ). entry_by all n r.word) (sym many) ∙ g.told ∙ e;
      }

  good_template : (all rs : List ShippedRow) (k : ℕ) (pieces : List Piece) → EachOf (IsGoodRow t all) rs → template_in (map template_row rs) k ≡ Some pieces → IsGoodTemplate all k (shipped_word rs k) pieces
  good_template all [] k pieces g h = absurd (cc)
  good_template all (r ∷ rs) k pieces g h =
      elim (r.entry == k) as (λ b. (r.entry == k) ≡ b → (if b then Some (pieces_of r.string r.arity) else template_in (map template_row rs) k) ≡ Some pieces → IsGoodTemplate all k (if b then r.word else shipped_word rs k) pieces) [
        | true ↦ λ e s. good_here all r k pieces g.0 ((Decides-eqb r.entry k).0 e) s
        | false ↦ λ e s. good_template all rs k pieces g.1 s
      ] refl h

  -- ---- all
  module _ (d : Driver) (valid : IsValid t) (x : HasShippedTemplates d t.ints) where
    abbrev words_of : ℕ → List ℕ
    words_of = (shipped_words t.ints).of_symbol

    int_plain : (pieces : List Piece) → bytes_alone d.int_template ≡ Some pieces → IsPlainTemplate t.symbols (problem_names t) (codes "Int") 0 pieces
    int_plain pieces h =
        let s : Some (Literal (codes "Int") ∷ []) ≡ Some pieces = ap bytes_alone (sym x.int) ∙ h in
        let same : Literal (codes "Int") ∷ [] ≡ pieces = cc in
        record {
          vars = vars_of 0 int_symbol valid.int refl;
          shape = subst (λ (n : ℕ). HasWord pieces n (codes "Int")) (sym (arity_is 0 int_symbol 0 valid.int refl)) (subst (λ (ps : List Piece). HasWord ps 0 (codes "Int")) same int_shape);
          plain = record { free = free (codes "Int") (omega arith) refl refl refl refl; no_name = no_name t (codes "Int") refl };
          no_equality = other_word (codes "Int") (codes "=") refl;
        }

    other : (k : ℕ) (pieces : List Piece) → template_in d.templates k ≡ Some pieces → IsGoodTemplate (rows_of t.ints) k (shipped_word (rows_of t.ints) k) pieces
    other k pieces h = good_template (rows_of t.ints) (rows_of t.ints) k pieces (good_of t.ints valid.ints) (ap (λ (ts : List (ℕ × List Piece)). template_in ts k) (sym x.symbols) ∙ h)

    each : (k : ℕ) (pieces : List Piece) → template_of d k ≡ Some pieces → IsPlainTemplate t.symbols (problem_names t) (words_of k) k pieces
    each k pieces h =
        elim (k == 0) as (λ b. (k == 0) ≡ b → (if b then bytes_alone d.int_template else template_in d.templates k) ≡ Some pieces → IsPlainTemplate t.symbols (problem_names t) (if b then codes "Int" else shipped_word (rows_of t.ints) k) k pieces) [
          | true ↦ λ e s. subst (λ (j : ℕ). IsPlainTemplate t.symbols (problem_names t) (codes "Int") j pieces) (sym ((Decides-eqb k 0).0 e)) (int_plain pieces s)
          | false ↦ λ e s. (other k pieces s).plain
        ] refl h

    is_int : is_type t.symbols 0 ≡ true
    is_int = kind_of 0 int_symbol valid.int true refl

    Found : ℕ → List ℕ → Type 0
    Found k w = (k ≡ 0) ⊎ ((is_type t.symbols k ≡ false) × (entry_by (rows_of t.ints) (arity t.symbols k) w ≡ k))

    found_in : (k : ℕ) (o : Option (List Piece)) → template_in d.templates k ≡ o → is_some o ≡ true → Found k (shipped_word (rows_of t.ints) k)
    unfolding Found
    found_in k None e h = absurd (cc)
    found_in k (Some pieces) e h = let g = other k pieces e in inr (g.kind, g.told)

    found : (k : ℕ) → has_template d k ≡ true → Found k (words_of k)
    unfolding Found
    found k h =
        elim (k == 0) as (λ b. (k == 0) ≡ b → is_some (if b then bytes_alone d.int_template else template_in d.templates k) ≡ true → Found k (if b then codes "Int" else shipped_word (rows_of t.ints) k)) [
          | true ↦ λ e s. inl ((Decides-eqb k 0).0 e)
          | false ↦ λ e s. found_in k (template_in d.templates k) refl s
        ] refl h

    differ_by : (j k : ℕ) → Found j (words_of j) → Found k (words_of k) → is_type t.symbols j ≡ is_type t.symbols k → arity t.symbols j ≡ arity t.symbols k → words_of j ≡ words_of k → j ≡ k
    unfolding Found
    differ_by j k (inl a) (inl b) s n w = a ∙ sym b
    differ_by j k (inl a) (inr b) s n w = let q : true ≡ false = sym (ap (is_type t.symbols) a ∙ is_int) ∙ s ∙ b.0 in absurd (cc)
    differ_by j k (inr a) (inl b) s n w = let q : true ≡ false = sym (ap (is_type t.symbols) b ∙ is_int) ∙ sym s ∙ a.0 in absurd (cc)
    differ_by j k (inr a) (inr b) s n w = sym a.1 ∙ (λ i. entry_by (rows_of t.ints) (n i) (w i)) ∙ b.1

    differ : TemplatesDiffer d t.symbols (shipped_words t.ints)
    differ j k h l s n w = differ_by j k (found j h) (found k l) s n w

    equality : EqualityIsPlain (problem_names t) (codes "=") d.eq_template
    equality = subst (λ o. EqualityIsPlain (problem_names t) (codes "=") o) (sym x.equality) (two_word (codes "="), record { free = equals_free; no_name = no_name t (codes "=") refl })

    no_equality : (k : ℕ) (o : Option (List Piece)) → template_of d k ≡ o → is_some o ≡ true → words_of k ≢ codes "="
    no_equality k None e h = absurd (cc)
    no_equality k (Some pieces) e h = (each k pieces e).no_equality

    pub shipped : ArePlain d t.symbols (problem_names t) (shipped_words t.ints)
    shipped = record { each = each; differ = differ; equality = equality; apart = (λ k h _ _. no_equality k (template_of d k) refl h) }

pub plain : ShippedArePlain
plain d t valid x = shipped t d valid x
