-- A formula has no fault where it has all forms, no type variable, and no bare thing in it.
use Rattle.std.proofs.Common.{◌≡◌, ℕ, Bool, true, false, not, ◌&&◌, ◌||◌, ◌==◌, if◌then◌else◌, List, [], ◌∷◌, ◌++◌, nat_eq, get_or, Some, None, refl, sym, ap, subst, ◌∙◌, arith}
use Rattle.std.specs.List.{list_any}
use Rattle.std.specs.Bool.{Decides}
use Rattle.std.specs.Cmp.Lexicographic.{pointwise}
use Rattle.std.proofs.lemmas.Bool.Decides.{nat_tests, Decides-and, Decides-eqb}
use Rattle.std.proofs.lemmas.Slice.Eq.{slice_eq-Decides}
use Rattle.trees.specs.Tree.{Tree, Leaf, HEnd, above_ty_vars}
use Rattle.drivers.specs.declared.driver_items.kinds.Syntax.{Syntax}
use Rattle.drivers.specs.driver_items.Syntaxes.{syntax_of}
use Rattle.name_tables.specs.Occurrences.{Occurrence, occurrences}
use Rattle.name_tables.specs.Seen.{has}
use Rattle.printed_problems.specs.declared.checks.Checker.{Checker}
use Rattle.printed_problems.specs.declared.checked.Checked.{Checked}
use Rattle.printed_problems.specs.declared.fault.PrintFault.{PrintFault}
use Rattle.printed_problems.specs.declared.fault.PrintFault.TheVariants.{Unprintable, Polymorphic}
use Rattle.printed_problems.specs.Faults.{has_forms, at_place, syntax_fault, formula_fault}
use Rattle.printed_problems.specs.Checks.{Pass, CanCheck, is_seen, first_where, the_task}
use Rattle.printed_problems.specs.Checked.{keys_at, any_occurs, is_faultless, IsChecked, AreChecked, IsEmptyChecked, TurnsTo}
use Rattle.printed_problems.proofs.Finding.{found_bare}
use Rattle.printed_problems.proofs.First.{formula_rest}
use Rattle.printed_problems.proofs.Forming.{pass_there, pass_marked}
use Rattle.tasks.proofs.plain_laws.Bools.{and_first, and_second}
use Rattle.tasks.proofs.plain_laws.Bools.{negated as not_true}

module _ (s : List Tree) (keys : List (ℕ × ℕ)) (os : List Occurrence) where
  first_none : (places : List ℕ) → any_occurs s os (keys_at keys places) ≡ false → first_where (is_seen s keys os) places ≡ None
  first_none [] e = refl
  first_none (p ∷ ps) e = elim (is_seen s keys os p) as (λ b. (b || any_occurs s os (keys_at keys ps)) ≡ false → (if b then Some p else first_where (is_seen s keys os) ps) ≡ None) [
    | true ↦ λ h. absurd (cc)
    | false ↦ λ h. first_none ps h
  ] e

  none_first : (places : List ℕ) → at_place (first_where (is_seen s keys os) places) ≡ None → any_occurs s os (keys_at keys places) ≡ false
  none_first [] e = refl
  none_first (p ∷ ps) e = elim (is_seen s keys os p) as (λ b. at_place (if b then Some p else first_where (is_seen s keys os) ps) ≡ None → (b || any_occurs s os (keys_at keys ps)) ≡ false) [
    | true ↦ λ h. absurd (cc)
    | false ↦ λ h. none_first ps h
  ] e

module _ (c : Checker) (can : CanCheck c) (e : Tree) (n : ℕ) where
  abbrev faultless_here : Bool
  faultless_here = is_faultless (syntax_of c.driver.now.printer) c.store.now (keys_at c.things.now c.bare.now) e

  abbrev no_variable : Bool
  no_variable = above_ty_vars e == 0

  abbrev no_bare : Bool
  no_bare = not (any_occurs c.store.now (occurrences e) (keys_at c.things.now c.bare.now))

  pub faultless_none : faultless_here ≡ true → formula_fault c.driver.now (the_task c) n e ≡ None
  faultless_none h =
      let forms = and_first (has_forms (syntax_of c.driver.now.printer) e) (no_variable && no_bare) h in
      let rest = and_second (has_forms (syntax_of c.driver.now.printer) e) (no_variable && no_bare) h in
      let closed : above_ty_vars e ≡ 0 = let z = and_first no_variable no_bare rest in grind (arith, nat_tests) in
      let none = not_true _ (and_second no_variable no_bare rest) in
      formula_rest c.driver.now (the_task c) n e forms closed
      ∙ ap at_place (sym (found_bare c can (occurrences e)) ∙ first_none c.store.now c.things.now (occurrences e) c.bare.now none)

  pub none_faultless : formula_fault c.driver.now (the_task c) n e ≡ None → faultless_here ≡ true
  none_faultless = elim (has_forms (syntax_of c.driver.now.printer) e) as (λ b. (if not b then Some (Unprintable n) else (if not no_variable then Some (Polymorphic n) else syntax_fault c.driver.now (the_task c) (occurrences e))) ≡ None → (b && (no_variable && no_bare)) ≡ true) [
    | true ↦ elim no_variable as (λ b. (if not b then Some (Polymorphic n) else syntax_fault c.driver.now (the_task c) (occurrences e)) ≡ None → (b && no_bare) ≡ true) [
      | true ↦ λ h. ap not (none_first c.store.now c.things.now (occurrences e) c.bare.now (ap at_place (found_bare c can (occurrences e)) ∙ h))
      | false ↦ λ h. absurd (cc)
    ]
    | false ↦ λ h. absurd (cc)
  ]

-- what was found of a formula, and one formula more
module _ (c : Checker) (can : CanCheck c) (k : Checked) (a : AreChecked c k) (id n : ℕ) where
  pub found_none : list_any (nat_eq id) k.faultless.keys ≡ true → formula_fault c.driver.now (the_task c) n (get_or c.store.now id (Leaf HEnd)) ≡ None
  found_none e =
      let s = c.store.now in
      let p = syntax_of c.driver.now.printer in
      faultless_none c can (get_or s id (Leaf HEnd)) n
      (subst (λ (bare : List (ℕ × ℕ)). is_faultless p s bare (get_or s id (Leaf HEnd)) ≡ true) a.bare (pass_there (is_faultless p s k.bare.items) s k.faultless.keys id a.is.faultless e))

  pub marked_none : (new : List ℕ) → formula_fault c.driver.now (the_task c) n (get_or c.store.now id (Leaf HEnd)) ≡ None → new ≡ (if list_any (nat_eq id) k.faultless.keys then k.faultless.keys else k.faultless.keys ++ id ∷ [])
      → Pass (is_faultless (syntax_of c.driver.now.printer) c.store.now k.bare.items) c.store.now new
  marked_none new none e =
      let s = c.store.now in
      let p = syntax_of c.driver.now.printer in
      pass_marked (is_faultless p s k.bare.items) s k.faultless.keys new id a.is.faultless
      (subst (λ (bare : List (ℕ × ℕ)). is_faultless p s bare (get_or s id (Leaf HEnd)) ≡ true) (sym a.bare) (none_faultless c can (get_or s id (Leaf HEnd)) n none)) e

-- nothing that was found has a fault
pub empty_checked : (k : Checked) → IsEmptyChecked k → (p : Syntax) (s : List Tree) → IsChecked p s k
empty_checked k e p s = record { formed = subst (Pass (has_forms p) s) (sym e.formed) tt; faultless = subst (Pass (is_faultless p s k.bare.items) s) (sym e.faultless) tt }

-- where nothing is kept of the formulas
pub turns_empty : (old new : Checked) (bare : List (ℕ × ℕ)) → new.formed ≡ old.formed → new.faultless.keys ≡ [] → new.bare.items ≡ bare → TurnsTo old bare new
turns_empty old new bare f e b = record {
  bare = b;
  stays = λ p s h. record {
    formed = subst (Pass (has_forms p) s) (sym (λ i. (f i).keys)) h.formed;
    faultless = subst (Pass (is_faultless p s new.bare.items) s) (sym e) tt;
  };
}

-- what `==` tells of two lists of things
same_pair : (a b : ℕ × ℕ) → Decides (nat_eq a.0 b.0 && nat_eq a.1 b.1) (a ≡ b)
same_pair a b =
    let both = Decides-and (nat_eq a.0 b.0) (nat_eq a.1 b.1) (Decides-eqb a.0 b.0) (Decides-eqb a.1 b.1) in
    (λ e. let h = both.0 e in (λ i. (h.0 i, h.1 i)), λ e. both.1 (ap (λ (z : ℕ × ℕ). z.0) e, ap (λ (z : ℕ × ℕ). z.1) e))

pub same_things : (xs ys : List (ℕ × ℕ)) (told : Bool) → told ≡ pointwise (λ (a b : ℕ × ℕ). nat_eq a.0 b.0 && nat_eq a.1 b.1) xs ys → told ≡ true → xs ≡ ys
same_things xs ys told e = (slice_eq-Decides same_pair xs ys told e).0
