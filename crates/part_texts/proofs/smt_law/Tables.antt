-- The table of a task's problem tells its things apart by their names.
use Rattle.std.proofs.Common.{◌≡◌, ◌≢◌, ℕ, suc, ◌+◌, ◌<◌, ◌≤◌, ◌^◌, ◌==◌, ◌||◌, not, true, false, cond, if◌then◌else◌, List, [], ◌∷◌, ◌++◌, length, get_or, slice_get, codes, AllPairs, Contains, Some, refl, sym, ap, subst, ◌∙◌, arith, inl, inr, ◌⊎◌, length-append, get_or-append-add}
use Rattle.std.specs.Fmt.{decimal}
use Rattle.std.proofs.lemmas.Bool.Decides.{nat_tests}
use Rattle.std.proofs.lemmas.Option.{get_or_from_slice_get, slice_get_within}
use Rattle.std.proofs.lemmas.List.{get_or_append_left}
use Rattle.std.proofs.lemmas.List.Elements.{Contains-append_left}
use Rattle.printed_problems.specs.drivers.driver_items.Syntaxes.{syntax_of}
use Rattle.printed_problems.specs.drivers.declared.driver_items.kinds.Syntax.TheVariants.{Smt}
use Rattle.printed_problems.specs.drivers.declared.driver_parts.driver.Driver.{Driver}
use Rattle.tasks.specs.Task.{TaskTree, symbol_or, declared, made}
use Rattle.tasks.specs.Vocabulary.{of_task}
use Rattle.tasks.proofs.Declared.{any_iff, usable_made, contains_cases, contains_step}
use Rattle.name_tables.specs.declared.name_entries.names.NameOf.TheVariants.{Int, Rigid, Symbol}
use Rattle.name_tables.specs.declared.name_entries.names.NameEntry.{NameEntry}
use Rattle.name_tables.specs.Occurrences.{Occurrence, occurrence, whole_occurrence}
use Rattle.name_tables.specs.Spelling.{own_name, clean}
use Rattle.name_tables.specs.Tables.{is_same, is_in, occurrence_place, named_thing, entry_at_place, entries_from, problem_things, problem_names}
use Rattle.name_tables.specs.Seen.{has}
use Rattle.name_tables.proofs.Gathering.{same_occurrence}
use Rattle.name_tables.proofs.Differ.{names_differ}
use Rattle.printed_problems.specs.Problems.{problem_of}
use Rattle.printed_problems.specs.printed_terms.Texts.{text_of_entry}
use Rattle.printed_problems.specs.printed_terms.Texts as texts
use Rattle.printed_problems.specs.printed_terms.Problems.{printing_of}
use Rattle.part_texts.specs.smt_law.Plain.{IsFreeWord, Words, ArePlain}
use Rattle.part_texts.specs.smt_law.Law.{IsEntrySpelt, IsPrinted}
use Rattle.part_texts.proofs.smt_law.Forms.{Known}
use Rattle.part_texts.proofs.smt_law.Back.{is_rigid_name, is_rigid_entry}
use Rattle.part_texts.proofs.smt_law.Words.{name_underscore, underscore_no_local, underscore_no_syntax, underscore_differs}
use Rattle.part_texts.proofs.smt_law.Found.{IsNamed, IsReader}

-- what a reader knows of a task's problem
abbrev pub known : Driver → Words → TaskTree → Known
known d words t = record { printing = printing_of d t (problem_of d t); words = words; vocabulary = of_task t; params = t.params }

-- ---- what is at a place
pub thing_at : (os : List Occurrence) (o : Occurrence) → has os o ≡ true → slice_get os (occurrence_place os o) ≡ Some o
thing_at [] o h = absurd (cc)
thing_at (x ∷ xs) o h = elim (is_same o x) as (λ b. is_same o x ≡ b → (b || has xs o) ≡ true → slice_get (x ∷ xs) (cond (not b) (1 + occurrence_place xs o) 0) ≡ Some o) [
  | true ↦ λ e _. ap (λ (z : Occurrence). Some z) (sym (same_occurrence o x e))
  | false ↦ λ e k. let n : 1 + occurrence_place xs o ≡ suc (occurrence_place xs o) = omega arith in ap (slice_get (x ∷ xs)) n ∙ thing_at xs o k
] refl h

entry_at : (t : TaskTree) (all os : List Occurrence) (place : ℕ) (o : Occurrence) → has os o ≡ true → slice_get (entries_from t all place os) (occurrence_place os o) ≡ Some (entry_at_place t all (place + occurrence_place os o) o)
entry_at t all [] place o h = absurd (cc)
entry_at t all (x ∷ xs) place o h = elim (is_same o x) as (λ b. is_same o x ≡ b → (b || has xs o) ≡ true
    → slice_get (entries_from t all place (x ∷ xs)) (cond (not b) (1 + occurrence_place xs o) 0) ≡ Some (entry_at_place t all (place + cond (not b) (1 + occurrence_place xs o) 0) o)) [
      | true ↦ λ e _. let n : place ≡ place + 0 = omega arith in let s = sym (same_occurrence o x e) in (λ i. Some (entry_at_place t all (n i) (s i)))
      | false ↦ λ e k.
          let n : 1 + occurrence_place xs o ≡ suc (occurrence_place xs o) = omega arith in
          let m : place + 1 + occurrence_place xs o ≡ place + (1 + occurrence_place xs o) = omega arith in
          ap (slice_get (entries_from t all place (x ∷ xs))) n ∙ entry_at t all xs (place + 1) o k ∙ ap (λ j. Some (entry_at_place t all j o)) m
    ] refl h

-- ---- names
its_name : (t : TaskTree) (all : List Occurrence) (place : ℕ) (o : Occurrence) → IsEntrySpelt (entry_at_place t all place o) → IsFreeWord (entry_at_place t all place o).name × ((entry_at_place t all place o).name ≢ codes "=")
its_name t all place o s =
    let x = clean (own_name (symbol_or t.symbols o.symbol).name) in
    let ds = decimal place in
    let u = name_underscore x ds in
    let n : length (x ++ 95 ∷ ds) ≡ length x + suc (length ds) = length-append x (95 ∷ ds) in (
      record {
        proper = record { some = omega (arith, n); whole = s.whole };
        no_number = s.start;
        no_local = underscore_no_local (x ++ 95 ∷ ds) u;
        no_syntax = underscore_no_syntax (x ++ 95 ∷ ds) u;
      },
      underscore_differs (x ++ 95 ∷ ds) (codes "=") u refl,
    )

-- ---- what is declared once
no_both : (xs ys : List ℕ) (k : ℕ) → AllPairs (λ i j. i ≢ j) (xs ++ ys) → Contains xs k → Contains ys k → ⊥
no_both xs ys k once c e =
    let n = length-append xs ys in
    let left : get_or (xs ++ ys) c.0 k ≡ k = get_or_append_left xs ys k c.0 c.1 ∙ c.2 in
    let right : get_or (xs ++ ys) (length xs + e.0) k ≡ k = get_or-append-add xs ys e.0 k ∙ e.2 in
    let i = c.1 in
    let j = e.1 in
    once c.0 (length xs + e.0) k (omega (arith, i)) (omega (arith, n, j)) (left ∙ sym right)

not_zero : (k : ℕ) → k ≢ 0 → (k == 0) ≡ false
not_zero k h = grind (arith, nat_tests)

not_in : (k : ℕ) (ks : List ℕ) → (Contains ks k → ⊥) → is_in k ks ≡ false
not_in k ks h = elim (is_in k ks) as (λ b. is_in k ks ≡ b → b ≡ false) [
  | true ↦ λ e. absurd (h ((any_iff k ks).0 e))
  | false ↦ λ e. refl
] refl

rigid_is : (t : TaskTree) (k : ℕ) → AllPairs (λ i j. i ≢ j) (declared t) → is_in k t.rigid ≡ true → is_rigid_name (named_thing t.rigid k) ≡ true
rigid_is t k once h =
    let c = (any_iff k t.rigid).0 h in
    let n : (k == 0) ≡ false = not_zero k (λ z. no_both (0 ∷ []) (t.rigid ++ made t.decls) k once (contains_step 0 k [] (inl z)) (Contains-append_left t.rigid (made t.decls) k c)) in
    (λ i. is_rigid_name (if n i then Int else (if h i then Rigid k else Symbol k)))

made_is : (t : TaskTree) (k : ℕ) → AllPairs (λ i j. i ≢ j) (declared t) → (k ≡ 0) ⊎ Contains (made t.decls) k → is_rigid_name (named_thing t.rigid k) ≡ false
made_is t k once (inl z) = ap (λ (j : ℕ). is_rigid_name (named_thing t.rigid j)) z
made_is t k once (inr c) =
    let n : is_in k t.rigid ≡ false = not_in k t.rigid (λ q. no_both (0 ∷ t.rigid) (made t.decls) k once (contains_step 0 k t.rigid (inr q)) c) in
    elim (k == 0) as (λ b. is_rigid_name (if b then Int else (if is_in k t.rigid then Rigid k else Symbol k)) ≡ false) [
      | true ↦ refl
      | false ↦ ap (λ b. is_rigid_name (if b then Rigid k else Symbol k)) n
    ]

module _ (d : Driver) (words : Words) (t : TaskTree) (smt : syntax_of d.printer ≡ Smt) (plain : ArePlain d t.symbols (problem_names t) words) (p : IsPrinted d t) where
  abbrev things : List Occurrence
  things = problem_things t

  abbrev place : Occurrence → ℕ
  place o = occurrence_place things o

  abbrev its_entry : Occurrence → NameEntry
  its_entry o = entry_at_place t things (0 + place o) o

  stands : (o : Occurrence) → has things o ≡ true → slice_get (problem_names t) (place o) ≡ Some (its_entry o)
  stands o h = entry_at t things things 0 o h

  spelt : (o : Occurrence) → has things o ≡ true → IsEntrySpelt (its_entry o)
  spelt o h =
      let e = stands o h in
      subst IsEntrySpelt (get_or_from_slice_get (problem_names t) (place o) (its_entry o) (its_entry o) e) (p.names (place o) (its_entry o) (slice_get_within (problem_names t) (place o) (its_entry o) e))

  named : (o : Occurrence) → has things o ≡ true → IsNamed (known d words t) o
  named o h =
      let n = its_name t things (0 + place o) o (spelt o h) in
      record { named = its_entry o; stands = stands o h; free = n.0; no_equals = n.1 }

  name_at : (o : Occurrence) → has things o ≡ true → texts.printed_name (known d words t).printing o ≡ (its_entry o).name
  name_at o h = ap text_of_entry (stands o h)

  entries_many : (os : List Occurrence) (n : ℕ) → length (entries_from t things n os) ≡ length os
  entries_many [] n = refl
  entries_many (x ∷ xs) n = let m = entries_many xs (n + 1) in omega (arith, m)

  few : length (problem_names t) ≤ 2 ^ 64
  few = let n = entries_many things 0 in let l = p.table in omega (arith, n, l)

  -- two things with one name are at one place
  no_less : (o q : Occurrence) → has things o ≡ true → has things q ≡ true → (its_entry o).name ≡ (its_entry q).name → place o < place q → ⊥
  no_less o q ho hq same l =
      let e = stands o ho in
      let f = stands q hq in
      let x = its_entry o in
      let left = get_or_from_slice_get (problem_names t) (place o) x x e in
      let right = get_or_from_slice_get (problem_names t) (place q) (its_entry q) x f in
      names_differ t things (problem_names t) refl few (place o) (place q) x l (slice_get_within (problem_names t) (place q) (its_entry q) f)
      (ap (λ (z : NameEntry). z.name) left ∙ same ∙ ap (λ (z : NameEntry). z.name) (sym right))

  same_place : (m n : ℕ) → (m < n → ⊥) → (n < m → ⊥) → m ≡ n
  same_place m n a b = omega arith

  same_thing : (o q : Occurrence) → Some o ≡ Some q → o ≡ q
  same_thing o q e = cc

  apart : (o q : Occurrence) → has things o ≡ true → has things q ≡ true → texts.printed_name (known d words t).printing o ≡ texts.printed_name (known d words t).printing q → o ≡ q
  apart o q ho hq e =
      let same : (its_entry o).name ≡ (its_entry q).name = sym (name_at o ho) ∙ e ∙ name_at q hq in
      let one : place o ≡ place q = same_place (place o) (place q) (no_less o q ho hq same) (no_less q o hq ho (sym same)) in
      same_thing o q (sym (thing_at things o ho) ∙ ap (slice_get things) one ∙ thing_at things q hq)

  pub reader : IsReader (known d words t)
  reader = record {
    smt = smt;
    plain = plain;
    params = p.params;
    named = named;
    apart = apart;
    rigid = (λ k h v. ap is_rigid_entry (stands (whole_occurrence k) h) ∙ rigid_is t k p.valid.once v);
    usable = (λ k types h u. ap is_rigid_entry (stands (occurrence k types) h) ∙ made_is t k p.valid.once (contains_cases 0 k (made t.decls) (usable_made t k u)));
  }
