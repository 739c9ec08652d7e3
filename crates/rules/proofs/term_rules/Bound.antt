-- The terms for a pattern's variables: as many as it binds, each closed, and told from the last one on.
use Rattle.std.proofs.Common.{◌≡◌, ℕ, zero, suc, ◌+◌, ◌-◌, ◌<◌, ◌≤◌, ◌==◌, Bool, true, false, if◌then◌else◌, List, [], ◌∷◌, ◌++◌, length, get_or, Option, Some, None, inr, refl, ap, ◌∙◌, arith}
use Rattle.trees.specs.Tree.{Tree, Leaf, One, Two, Three, Head, HEnd, HCell, HPatVar, HPatAlias, HPatCon, loose, pat_vars, one_vars, two_vars, three_vars}
use Rattle.trees.specs.Sorts.{WellSorted, Fits}
use Rattle.trees.specs.Binding.{TyVar, AreTypes, inst_types, instantiating_many, Bound}
use Rattle.trees.proofs.Types.{OnlyTypes, only_types, loose_types}
use Rattle.trees.proofs.Laws.{loose_inst_types, shift_closed}
use Rattle.std.proofs.lemmas.Bool.Decides.{nat_tests}
use Rattle.trees.proofs.Many.{left_at, right_at, length_joined, many_at, many_above, default_at}
use Rattle.tasks.specs.Task.{TaskTree, symbol_or}
use Rattle.tasks.specs.Typing.{members}
use Rattle.tasks.specs.MatchTests.{result_at, field, fields, constructor_projections, parts, top, other_terms, one_binds, two_binds, three_binds, pattern_terms}
use Rattle.rules.specs.term_rules.Matches.{from_last}

-- ---- as many as the pattern binds
one_count : (h : Head) (inner ss : List Tree) (n : ℕ) → length inner ≡ n → length (one_binds h inner ss) ≡ one_vars h n
one_count HPatVar inner ss n e = refl
one_count HPatAlias inner ss n e = omega (arith, length_joined inner (top ss ∷ []), e)
one_count _ inner ss n e = refl

two_count : (h : Head) (xs ys : List Tree) (m n : ℕ) → length xs ≡ m → length ys ≡ n → length (two_binds h xs ys) ≡ two_vars h m n
two_count HCell xs ys m n e f = omega (arith, length_joined xs ys, e, f)
two_count _ xs ys m n e f = refl

three_count : (h : Head) (xs : List Tree) (n : ℕ) → length xs ≡ n → length (three_binds h xs) ≡ three_vars h n
three_count (HPatCon k) xs n e = e
three_count _ xs n e = refl

pub binds_count : (t : TaskTree) (p : Tree) (ss : List Tree) → length (pattern_terms t p ss) ≡ pat_vars p
binds_count t (Leaf h) ss = refl
binds_count t (One h p) ss = one_count h (pattern_terms t p ss) ss (pat_vars p) (binds_count t p ss)
binds_count t (Two h p q) ss = two_count h (pattern_terms t p (top ss ∷ [])) (pattern_terms t q (other_terms ss)) (pat_vars p) (pat_vars q) (binds_count t p (top ss ∷ [])) (binds_count t q (other_terms ss))
binds_count t (Three h a p c) ss = three_count h (pattern_terms t p (parts t h a ss)) (pat_vars p) (binds_count t p (parts t h a ss))

-- ---- each is closed
abbrev pub AllClosed : List Tree → Type 0
AllClosed [] = Unit {0}
AllClosed (e ∷ es) = (loose e ≡ 0) × AllClosed es

closed_joined : (xs ys : List Tree) → AllClosed xs → AllClosed ys → AllClosed (xs ++ ys)
closed_joined [] ys a b = b
closed_joined (x ∷ xs) ys a b = (a.0, closed_joined xs ys a.1 b)

closed_at : (xs : List Tree) (k : ℕ) (d : Tree) → AllClosed xs → k < length xs → loose (get_or xs k d) ≡ 0
closed_at [] k d a l = absurd (omega arith)
closed_at (x ∷ xs) zero d a l = a.0
closed_at (x ∷ xs) (suc k) d a l = closed_at xs k d a.1 (omega arith)

closed_top : (ss : List Tree) → AllClosed ss → loose (top ss) ≡ 0
closed_top [] a = refl
closed_top (s ∷ ss) a = a.0

closed_others : (ss : List Tree) → AllClosed ss → AllClosed (other_terms ss)
closed_others [] a = tt
closed_others (s ∷ ss) a = a.1

-- the members of a list of types are types
types_no_vars : (e : Tree) → OnlyTypes e → pat_vars e ≡ 0
types_no_vars (Leaf h) o = refl
types_no_vars (One h a) o = rw o.0.1 refl
types_no_vars (Two h a b) o = rw o.0 (omega (arith, types_no_vars a o.1, types_no_vars b o.2))
types_no_vars (Three h a b c) o = absurd o

member_closed : (e : Tree) (j k : ℕ) → OnlyTypes e → (loose (get_or (members e) j (TyVar k)) ≡ 0) × (pat_vars (get_or (members e) j (TyVar k)) ≡ 0)
member_closed (Leaf h) j k o = (refl, refl)
member_closed (One h a) j k o = (refl, refl)
member_closed (Two h a b) zero k o = rw o.0 (loose_types a o.1, types_no_vars a o.1)
member_closed (Two h a b) (suc j) k o = rw o.0 (member_closed b j k o.2)
member_closed (Three h a b c) j k o = absurd o

are_types : (e : Tree) → OnlyTypes e → AreTypes (members e)
are_types e o = record { closed = λ j. (member_closed e j j o).0; no_vars = λ j. (member_closed e j j o).1 }

pub zero_of : (n : ℕ) → (n == 0) ≡ true → n ≡ 0
zero_of n e = grind (arith, nat_tests)

result_by : (r types : Tree) (b : Bool) → (loose r == 0) ≡ b → OnlyTypes types → loose (if b then inst_types r (members types) else Leaf HEnd) ≡ 0
result_by r types true e o = let l = loose_inst_types r (members types) 0 (are_types types o) (omega (arith, zero_of (loose r) e)) in omega (arith, l)
result_by r types false e o = refl

result_closed : (r : Option Tree) (types : Tree) → OnlyTypes types → loose (result_at r types) ≡ 0
result_closed None types o = refl
result_closed (Some r) types o = result_by r types (loose r == 0) refl o

field_closed : (t : TaskTree) (j : ℕ) (types s : Tree) → OnlyTypes types → loose s ≡ 0 → loose (field t j types s) ≡ 0
field_closed t j types s o l = omega (arith, loose_types types o, l, result_closed (symbol_or t.symbols j).result types o)

fields_closed : (t : TaskTree) (js : List ℕ) (types s : Tree) → OnlyTypes types → loose s ≡ 0 → AllClosed (fields t js types s)
fields_closed t [] types s o l = tt
fields_closed t (j ∷ js) types s o l = (field_closed t j types s o l, fields_closed t js types s o l)

parts_closed : (t : TaskTree) (h : Head) (types p c : Tree) (ss : List Tree) → Fits (Three h types p c) → WellSorted types → AllClosed ss → AllClosed (parts t h types ss)
parts_closed t (HPatCon k) types p c ss f w a = fields_closed t (constructor_projections t k) types (top ss) (only_types types w (inr f.0)) (closed_top ss a)
parts_closed t _ types p c ss f w a = tt

one_closed : (h : Head) (inner ss : List Tree) → AllClosed inner → AllClosed ss → AllClosed (one_binds h inner ss)
one_closed HPatVar inner ss a b = (closed_top ss b, tt)
one_closed HPatAlias inner ss a b = closed_joined inner (top ss ∷ []) a (closed_top ss b, tt)
one_closed _ inner ss a b = tt

two_closed : (h : Head) (xs ys : List Tree) → AllClosed xs → AllClosed ys → AllClosed (two_binds h xs ys)
two_closed HCell xs ys a b = closed_joined xs ys a b
two_closed _ xs ys a b = tt

three_closed : (h : Head) (xs : List Tree) → AllClosed xs → AllClosed (three_binds h xs)
three_closed (HPatCon k) xs a = a
three_closed _ xs a = tt

pub binds_closed : (t : TaskTree) (p : Tree) (ss : List Tree) → WellSorted p → AllClosed ss → AllClosed (pattern_terms t p ss)
binds_closed t (Leaf h) ss w a = tt
binds_closed t (One h p) ss w a = one_closed h (pattern_terms t p ss) ss (binds_closed t p ss w.1 a) a
binds_closed t (Two h p q) ss w a =
    two_closed h (pattern_terms t p (top ss ∷ [])) (pattern_terms t q (other_terms ss)) (binds_closed t p (top ss ∷ []) w.1 (closed_top ss a, tt)) (binds_closed t q (other_terms ss) w.2 (closed_others ss a))
binds_closed t (Three h a p c) ss w l = three_closed h (pattern_terms t p (parts t h a ss)) (binds_closed t p (parts t h a ss) w.2 (parts_closed t h a p c ss w.0 w.1 l))

-- ---- told from the last one
last_after : (xs ys : List Tree) (back : ℕ) → back < length ys → from_last (xs ++ ys) back ≡ from_last ys back
last_after xs ys back l =
    right_at xs ys (length (xs ++ ys) - 1 - back) (length ys - 1 - back) (Leaf HEnd) (omega (arith, l, length_joined xs ys))

last_before : (xs ys : List Tree) (back : ℕ) → length ys ≤ back → back < length xs + length ys → from_last (xs ++ ys) back ≡ from_last xs (back - length ys)
last_before xs ys back l m =
    let q : length (xs ++ ys) - 1 - back ≡ length xs - 1 - (back - length ys) = omega (arith, l, m, length_joined xs ys) in
    ap (λ k. get_or (xs ++ ys) k (Leaf HEnd)) q ∙ left_at xs ys (length xs - 1 - (back - length ys)) (Leaf HEnd) (omega (arith, l, m))

module _ (t : TaskTree) (p : Tree) (ss : List Tree) where
  pub of_variable : (a : Tree) (back : ℕ) → p ≡ One HPatVar a → back < pat_vars p → from_last (pattern_terms t p ss) back ≡ top ss
  of_variable a back e l =
      let m : back < 1 = rw e at l in
      let z : back ≡ 0 = omega (arith, m) in
      rw (e, z) refl

  pub of_alias : (a : Tree) → p ≡ One HPatAlias a → from_last (pattern_terms t p ss) 0 ≡ top ss
  of_alias a e = rw e (last_after (pattern_terms t a ss) (top ss ∷ []) 0 (omega arith))

  pub in_alias : (a : Tree) (back : ℕ) → p ≡ One HPatAlias a → 0 < back → back < pat_vars p → from_last (pattern_terms t p ss) back ≡ from_last (pattern_terms t a ss) (back - 1)
  in_alias a back e z l =
      let m : back < pat_vars a + 1 = rw e at l in
      rw e (last_before (pattern_terms t a ss) (top ss ∷ []) back (omega (arith, z)) (omega (arith, m, binds_count t a ss)))

  pub in_rest : (a b : Tree) (back : ℕ) → p ≡ Two HCell a b → back < pat_vars b → from_last (pattern_terms t p ss) back ≡ from_last (pattern_terms t b (other_terms ss)) back
  in_rest a b back e l = rw e (last_after (pattern_terms t a (top ss ∷ [])) (pattern_terms t b (other_terms ss)) back (omega (arith, l, binds_count t b (other_terms ss))))

  pub in_first : (a b : Tree) (back : ℕ) → p ≡ Two HCell a b → pat_vars b ≤ back → back < pat_vars p → from_last (pattern_terms t p ss) back ≡ from_last (pattern_terms t a (top ss ∷ [])) (back - pat_vars b)
  in_first a b back e l m =
      let n : back < pat_vars a + pat_vars b = rw e at m in
      let c = binds_count t b (other_terms ss) in
      let d = binds_count t a (top ss ∷ []) in
      rw e (last_before (pattern_terms t a (top ss ∷ [])) (pattern_terms t b (other_terms ss)) back (omega (arith, l, c)) (omega (arith, n, c, d)) ∙ ap (λ k. from_last (pattern_terms t a (top ss ∷ [])) (back - k)) c)

  pub in_parts : (k : ℕ) (types parts ty : Tree) → p ≡ Three (HPatCon k) types parts ty → pattern_terms t p ss ≡ pattern_terms t parts (fields t (constructor_projections t k) types (top ss))
  in_parts k types parts ty e = rw e refl

  -- what is put for a variable of the pattern
  pub put_bound : (d i : ℕ) (ty : Tree) → WellSorted p → AllClosed ss → d ≤ i → i - d < pat_vars p → (instantiating_many (pattern_terms t p ss)).bound d i ty ≡ from_last (pattern_terms t p ss) (i - d)
  put_bound d i ty w a l m =
      let ts = pattern_terms t p ss in
      let n = binds_count t p ss in
      let k = length ts - 1 - (i - d) in
      let small : k < length ts = omega (arith, m, n) in
      let same = default_at ts k ty (Leaf HEnd) small in
      let z = closed_at ts k ty (binds_closed t p ss w a) small in
      many_at ts d i k ty l (omega (arith, l, m, n)) ∙ shift_closed (get_or ts k ty) d 0 (omega (arith, z)) ∙ same

  pub put_above : (d i : ℕ) (ty : Tree) → d ≤ i → pat_vars p ≤ i - d → (instantiating_many (pattern_terms t p ss)).bound d i ty ≡ Bound (i - pat_vars p) ty
  put_above d i ty l m =
      let n = binds_count t p ss in
      many_above (pattern_terms t p ss) d i ty (omega (arith, l, m, n)) ∙ ap (λ k. Bound (i - k) ty) n
