-- The equation of a branch at closed terms.
use Rattle.std.proofs.Common.{◌≡◌, ℕ, ◌+◌, ◌≤◌, Bool, true, false, if◌then◌else◌, List, [], ◌∷◌, ◌++◌, map, length, get_or, subst, refl, sym, ap, ◌∙◌, arith, append_assoc}
use Rattle.std.proofs.Math.Seq.{get_or-append_seam}
use Rattle.std.proofs.lemmas.List.{length-append, append-nil, map-append}
use Rattle.tasks.specs.trees.Tree.{Tree, One, Two, Three, Head, HBound, HFun, HCell, binders_over, loose}
use Rattle.tasks.specs.trees.Binding.{change, instantiating_many, inst_many, AreClosed, AreNoPatterns}
use Rattle.trees.proofs.Laws.{shift_closed}
use Rattle.trees.proofs.Many.{many_at, closed_at, inst_many_closed, length_map}
use Rattle.tasks.specs.Equations.{cells}
use Rattle.images.proofs.OpenInstances.{composed}
use Rattle.inlining.specs.branch_equations.Branches.{ConstructorBranch, field_type, is_variable_field, parameters_before, parameters_after, variables_above, branch_fields, built_term, branch_parameters, bound_fields, pattern_fields, branch_sides}
use Rattle.inlining.specs.branch_equations.Laws.{terms_with, BranchesAtTerms}

-- ---- the variables of binders at terms
variable_at : (pre : List Tree) (x : Tree) (rest : List Tree) (ty : Tree) → AreClosed (pre ++ x ∷ rest) → inst_many (One (HBound (length rest)) ty) (pre ++ x ∷ rest) ≡ x
variable_at pre x rest ty c =
    let us = pre ++ x ∷ rest in
    let t = inst_many ty us in
    let n : length rest + length pre + 1 ≡ 0 + length us = omega (arith, length-append pre (x ∷ rest)) in
    let e : get_or us (length pre) t ≡ x = get_or-append_seam pre x rest t in
    let o : loose (get_or us (length pre) t) ≡ 0 = closed_at us (length pre) t c (omega (arith, length-append pre (x ∷ rest))) in
    many_at us 0 (length rest) (length pre) t (omega arith) n ∙ shift_closed (get_or us (length pre) t) 0 0 (omega (arith, o)) ∙ e

variables_at : (pre xs rest types : List Tree) (n : ℕ) → n ≡ length rest → length xs ≡ length types → AreClosed (pre ++ (xs ++ rest)) → map (λ t. inst_many t (pre ++ (xs ++ rest))) (variables_above n types) ≡ xs
variables_at pre [] rest [] n e l c = refl
variables_at pre (x ∷ xs) rest (ty ∷ types) n e l c =
    let i : length types + n ≡ length (xs ++ rest) = omega (arith, length-append xs rest, e, l) in
    let first : inst_many (One (HBound (length types + n)) ty) (pre ++ (x ∷ xs ++ rest)) ≡ x = ap (λ (j : ℕ). inst_many (One (HBound j) ty) (pre ++ (x ∷ xs ++ rest))) i ∙ variable_at pre x (xs ++ rest) ty c in
    let more : (pre ++ x ∷ []) ++ (xs ++ rest) ≡ pre ++ (x ∷ xs ++ rest) = append_assoc pre (x ∷ []) (xs ++ rest) in
    let others : map (λ t. inst_many t (pre ++ (x ∷ xs ++ rest))) (variables_above n types) ≡ xs =
    subst (λ (us : List Tree). map (λ t. inst_many t us) (variables_above n types) ≡ xs) more (variables_at (pre ++ x ∷ []) xs rest types n e (omega (arith, l)) (subst AreClosed (sym more) c)) in
    ap (λ (z : Tree). z ∷ map (λ t. inst_many t (pre ++ (x ∷ xs ++ rest))) (variables_above n types)) first ∙ ap (λ (z : List Tree). x ∷ z) others
variables_at pre [] rest (ty ∷ types) n e l c = absurd (omega (arith, l))
variables_at pre (x ∷ xs) rest [] n e l c = absurd (omega (arith, l))

cells_at : (us ts : List Tree) → inst_many (cells ts) us ≡ cells (map (λ t. inst_many t us) ts)
cells_at us [] = refl
cells_at us (t ∷ ts) = ap (λ (z : Tree). Two HCell (inst_many t us) z) (cells_at us ts)

fields_at : (f : Tree → Tree) (ps zs : List Tree) → map f (bound_fields ps zs) ≡ bound_fields ps (map f zs)
fields_at f [] [] = refl
fields_at f [] (z ∷ zs) = refl
fields_at f (p ∷ ps) [] = refl
fields_at f (p ∷ ps) (z ∷ zs) = by (is_variable_field p) (fields_at f ps zs)
  where
    by : (t : Bool) → map f (bound_fields ps zs) ≡ bound_fields ps (map f zs) → map f (if t then z ∷ bound_fields ps zs else bound_fields ps zs) ≡ (if t then f z ∷ bound_fields ps (map f zs) else bound_fields ps (map f zs))
    by true q = ap (λ (w : List Tree). f z ∷ w) q
    by false q = q

-- ---- terms, none of them a pattern
above_plain : (n : ℕ) (types : List Tree) → AreNoPatterns (variables_above n types)
above_plain n [] = tt
above_plain n (ty ∷ types) = (refl, above_plain n types)

pub plain_append : (ts us : List Tree) → AreNoPatterns ts → AreNoPatterns us → AreNoPatterns (ts ++ us)
plain_append [] us a c = c
plain_append (t ∷ ts) us a c = (a.0, plain_append ts us a.1 c)

plain_fields : (ps zs : List Tree) → AreNoPatterns zs → AreNoPatterns (bound_fields ps zs)
plain_fields [] [] a = tt
plain_fields [] (z ∷ zs) a = tt
plain_fields (p ∷ ps) [] a = tt
plain_fields (p ∷ ps) (z ∷ zs) a = by (is_variable_field p) (plain_fields ps zs a.1)
  where
    by : (t : Bool) → AreNoPatterns (bound_fields ps zs) → AreNoPatterns (if t then z ∷ bound_fields ps zs else bound_fields ps zs)
    by true c = (a.0, c)
    by false c = c

-- ---- the two sides
module _ (args : List Tree) (i : ℕ) (b : ConstructorBranch) (xs zs ys : List Tree) (before : length xs ≡ length (parameters_before args i)) (own : length zs ≡ length b.fields) (after : length ys ≡ length (parameters_after args i))
    (closed : AreClosed (xs ++ (zs ++ ys))) (types : loose b.types ≡ 0) (type : loose b.type ≡ 0) where
  abbrev us : List Tree
  us = xs ++ (zs ++ ys)

  abbrev here : Tree → Tree
  here t = inst_many t us

  fields_are : map here (branch_fields args i b) ≡ zs
  fields_are = variables_at xs zs ys (map field_type b.fields) (length (parameters_after args i)) (sym after) (omega (arith, own, length_map field_type b.fields)) closed

  built_is : here (built_term args i b) ≡ Three (HFun b.symbol) b.types (cells zs) b.type
  built_is =
      ap (λ (z : Tree). Three (HFun b.symbol) z (here (cells (branch_fields args i b))) (here b.type)) (inst_many_closed us 0 b.types types)
      ∙ ap (λ (z : Tree). Three (HFun b.symbol) b.types z (here b.type)) (cells_at us (branch_fields args i b) ∙ ap cells fields_are)
      ∙ ap (Three (HFun b.symbol) b.types (cells zs)) (inst_many_closed us 0 b.type type)

  after_are : map here (variables_above 0 (parameters_after args i)) ≡ ys
  after_are =
      let e : (xs ++ zs) ++ (ys ++ []) ≡ us = ap (λ (z : List Tree). (xs ++ zs) ++ z) (append-nil ys) ∙ append_assoc xs zs ys in
      subst (λ (ws : List Tree). map (λ t. inst_many t ws) (variables_above 0 (parameters_after args i)) ≡ ys) e
      (variables_at (xs ++ zs) ys [] (parameters_after args i) 0 refl after (subst AreClosed (sym e) closed))

  parameters_are : map here (branch_parameters args i b) ≡ terms_with b xs zs ys
  parameters_are =
      let ps = variables_above (length b.fields + length (parameters_after args i)) (parameters_before args i) in
      let first : map here ps ≡ xs = variables_at [] xs (zs ++ ys) (parameters_before args i) (length b.fields + length (parameters_after args i)) (omega (arith, length-append zs ys, own, after)) before closed in
      map-append here ps (built_term args i b ∷ variables_above 0 (parameters_after args i))
      ∙ ap (λ (z : List Tree). z ++ here (built_term args i b) ∷ map here (variables_above 0 (parameters_after args i))) first
      ∙ ap (λ (z : Tree). xs ++ z ∷ map here (variables_above 0 (parameters_after args i))) built_is
      ∙ ap (λ (z : List Tree). xs ++ Three (HFun b.symbol) b.types (cells zs) b.type ∷ z) after_are

  all_are : map here (branch_parameters args i b ++ pattern_fields args i b) ≡ terms_with b xs zs ys ++ bound_fields b.fields zs
  all_are =
      map-append here (branch_parameters args i b) (pattern_fields args i b)
      ∙ ap (λ (z : List Tree). z ++ map here (pattern_fields args i b)) parameters_are
      ∙ ap (λ (z : List Tree). terms_with b xs zs ys ++ z) (fields_at here b.fields (branch_fields args i b) ∙ ap (bound_fields b.fields) fields_are)

  plain_parameters : AreNoPatterns (branch_parameters args i b)
  plain_parameters =
      plain_append (variables_above (length b.fields + length (parameters_after args i)) (parameters_before args i)) (built_term args i b ∷ variables_above 0 (parameters_after args i))
      (above_plain (length b.fields + length (parameters_after args i)) (parameters_before args i)) (refl, above_plain 0 (parameters_after args i))

  plain_all : AreNoPatterns (branch_parameters args i b ++ pattern_fields args i b)
  plain_all = plain_append (branch_parameters args i b) (pattern_fields args i b) plain_parameters (plain_fields b.fields (branch_fields args i b) (above_plain (length (parameters_after args i)) (map field_type b.fields)))

  sides_are : (h : Head) → ((a : Tree) → binders_over h a ≡ 0) → (left body : Tree) → loose left ≤ length (branch_parameters args i b) → loose b.body ≤ length (branch_parameters args i b ++ pattern_fields args i b)
      → here (branch_sides args i b (Two h left body)) ≡ Two h (inst_many left (terms_with b xs zs ys)) (inst_many b.body (terms_with b xs zs ys ++ bound_fields b.fields zs))
  sides_are h none left body l m =
      let x = inst_many left (branch_parameters args i b) in
      let y = inst_many b.body (branch_parameters args i b ++ pattern_fields args i b) in
      let left_is : here x ≡ inst_many left (terms_with b xs zs ys) = composed us (branch_parameters args i b) left closed plain_parameters l ∙ ap (inst_many left) parameters_are in
      let body_is : here y ≡ inst_many b.body (terms_with b xs zs ys ++ bound_fields b.fields zs) = composed us _ b.body closed plain_all m ∙ ap (inst_many b.body) all_are in
      let same : 0 + binders_over h x ≡ 0 = omega (arith, none x) in
      ap (λ (d : ℕ). Two h (here x) (change (instantiating_many us) d y)) same ∙ ap (λ (z : Tree). Two h z (here y)) left_is ∙ ap (Two h (inst_many left (terms_with b xs zs ys))) body_is

pub branches_at_terms : BranchesAtTerms
branches_at_terms args i b h none left body xs zs ys before own after closed types type l m = sides_are args i b xs zs ys before own after closed types type h none left body l m
