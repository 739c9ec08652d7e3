-- The equation of a branch at types and closed terms: a use of the symbol, and what the body there gives.
use Rattle.std.proofs.Common.{◌≡◌, ℕ, zero, suc, ◌+◌, ◌-◌, ◌<◌, ◌≤◌, true, List, [], ◌∷◌, ◌++◌, map, take, drop, length, get_or, slice_get, Some, refl, sym, ap, subst, ◌∙◌, arith}
use Rattle.std.specs.List.{list_all}
use Rattle.std.proofs.Math.Seq.{get_or-append_seam}
use Rattle.std.proofs.lemmas.List.{length-append}
use Rattle.tasks.specs.trees.Tree.{Tree, One, Two, Three, Head, HBound, HCase, HFun, binders_over, loose}
use Rattle.tasks.specs.trees.Binding.{change, typing, inst_types, instantiating_many, inst_many, AreTypes, AreClosed}
use Rattle.tasks.proofs.trees.Laws.{shift_closed, loose_inst_types}
use Rattle.tasks.proofs.trees.Many.{many_at, closed_at, length_map, inst_many_closed, inst_many_under}
use Rattle.tasks.specs.Equations.{cells}
use Rattle.tr_inline.specs.inlining.branch_equations.Branches.{ConstructorBranch, is_plain_field, field_type, bound_fields, parameters_before, parameters_after, branch_types, variables_above, branch_fields, built_term, branch_parameters, pattern_fields, branch_sides, are_different}
use Rattle.tr_inline.specs.inlining.branch_equations.Laws.{BranchesAtTerms}
use Rattle.tr_recursion.specs.branch_instances.Chosen.{arms_of, has_plain_fields, chosen_branch, IsChosenOf}
use Rattle.tr_recursion.proofs.branch_instances.Arms.{variable_count, bound_count, changed, changed_arms, fields_plain, fields_bound, count_kept, all_plain, changed_choice, chosen_of}
use Rattle.tr_recursion.proofs.branch_instances.AtTypes.{anywhere, branch_at}

parameter_at : (pre : List Tree) (x : Tree) (rest : List Tree) (i : ℕ) (ty : Tree) → length rest ≡ i → AreClosed (pre ++ x ∷ rest) → inst_many (One (HBound i) ty) (pre ++ x ∷ rest) ≡ x
parameter_at pre x rest i ty m c =
    let us = pre ++ x ∷ rest in
    let t = inst_many ty us in
    let n : i + length pre + 1 ≡ 0 + length us = omega (arith, length-append pre (x ∷ rest), m) in
    let e : get_or us (length pre) t ≡ x = get_or-append_seam pre x rest t in
    let o : loose (get_or us (length pre) t) ≡ 0 = closed_at us (length pre) t c (omega (arith, length-append pre (x ∷ rest))) in
    many_at us 0 i (length pre) t (omega arith) n ∙ shift_closed (get_or us (length pre) t) 0 0 (omega (arith, o)) ∙ e

-- ---- three parts of a list
record HasParts (ws : List Tree) (l m n : ℕ) : Type 0 where
  before : List Tree
  middle : List Tree
  after : List Tree
  is : ws ≡ before ++ (middle ++ after)
  before_many : length before ≡ l
  middle_many : length middle ≡ m
  after_many : length after ≡ n

record HasTwo (ws : List Tree) (l m : ℕ) : Type 0 where
  one : List Tree
  two : List Tree
  is : ws ≡ one ++ two
  one_many : length one ≡ l
  two_many : length two ≡ m

two_parts : (ws : List Tree) (l m : ℕ) → length ws ≡ l + m → HasTwo ws l m
two_parts ws zero m e = record { one = []; two = ws; is = refl; one_many = refl; two_many = omega (arith, e) }
two_parts [] (suc l) m e = absurd (omega (arith, e))
two_parts (w ∷ ws) (suc l) m e = let r = two_parts ws l m (omega (arith, e)) in record { one = w ∷ r.one; two = r.two; is = ap (λ (z : List Tree). w ∷ z) r.is; one_many = ap suc r.one_many; two_many = r.two_many }

three_parts : (ws : List Tree) (l m n : ℕ) → length ws ≡ l + (m + n) → HasParts ws l m n
three_parts ws l m n e =
    let a = two_parts ws l (m + n) e in
    let b = two_parts a.two m n a.two_many in
    record { before = a.one; middle = b.one; after = b.two; is = a.is ∙ ap (λ (z : List Tree). a.one ++ z) b.is; before_many = a.one_many; middle_many = b.one_many; after_many = b.two_many }

pub closed_left : (xs ys : List Tree) → AreClosed (xs ++ ys) → AreClosed xs
closed_left [] ys c = tt
closed_left (x ∷ xs) ys c = (c.0, closed_left xs ys c.1)

pub closed_right : (xs ys : List Tree) → AreClosed (xs ++ ys) → AreClosed ys
closed_right [] ys c = c
closed_right (x ∷ xs) ys c = closed_right xs ys c.1

closed_joined : (xs ys : List Tree) → AreClosed xs → AreClosed ys → AreClosed (xs ++ ys)
closed_joined [] ys a b = b
closed_joined (x ∷ xs) ys a b = (a.0, closed_joined xs ys a.1 b)

pub closed_cells : (zs : List Tree) → AreClosed zs → loose (cells zs) ≡ 0
closed_cells [] c = refl
closed_cells (z ∷ zs) c = omega (arith, c.0.0, closed_cells zs c.1)

length_dropped : (n : ℕ) (xs : List Tree) → n ≤ length xs → length (drop n xs) + n ≡ length xs
length_dropped zero xs l = omega arith
length_dropped (suc n) [] l = absurd (omega (arith, l))
length_dropped (suc n) (x ∷ xs) l = omega (arith, length_dropped n xs (omega (arith, l)))

-- a formula with a use of a symbol at types and terms on its left side, and what the body there gives on the right
pub record IsUseSplit (body : Tree) (many : ℕ) (head : Head) (left sides : Tree) : Type 0 where
  pub terms : List Tree
  pub closed : AreClosed terms
  pub as_many : length terms ≡ many
  pub right : Tree
  pub is : sides ≡ Two head (inst_many left terms) right
  pub chosen : IsChosenOf (inst_many body terms) right

module _ (at_terms : BranchesAtTerms) (ys : List Tree) (types : AreTypes ys) (args : List Tree) (i : ℕ) (within : i < length args) (bs : List ConstructorBranch) (plain : list_all has_plain_fields bs ≡ true) (different : are_different bs ≡ true) (place : ℕ) (b : ConstructorBranch) (there : slice_get bs place ≡ Some b)
    (own_plain : list_all is_plain_field b.fields ≡ true) (types_closed : loose b.types ≡ 0) (type_closed : loose b.type ≡ 0) (h : Head) (none : (a : Tree) → binders_over h a ≡ 0) (left : Tree) (left_loose : loose left ≤ length args) (body_loose : loose b.body ≤ length args + variable_count b.fields) (ty : Tree) (ws : List Tree)
    (as_many : length ws ≡ length (branch_types (map (λ e. inst_types e ys) args) i (branch_at ys b))) (closed : AreClosed ws) where
  abbrev at : Tree → Tree
  at e = inst_types e ys

  abbrev A : List Tree
  A = map at args

  abbrev B : ConstructorBranch
  B = branch_at ys b

  abbrev body : Tree
  body = Two HCase (One (HBound i) ty) (arms_of bs)

  fields_many : length (map field_type B.fields) ≡ length B.fields
  fields_many = length_map field_type B.fields

  parts : HasParts ws (length (parameters_before A i)) (length B.fields) (length (parameters_after A i))
  parts = three_parts ws (length (parameters_before A i)) (length B.fields) (length (parameters_after A i))
      (as_many ∙ length-append (parameters_before A i) (map field_type B.fields ++ parameters_after A i)
      ∙ ap (λ (n : ℕ). length (parameters_before A i) + n) (length-append (map field_type B.fields) (parameters_after A i) ∙ ap (λ (n : ℕ). n + length (parameters_after A i)) fields_many))

  abbrev xs : List Tree
  xs = parts.before

  abbrev zs : List Tree
  zs = parts.middle

  abbrev us : List Tree
  us = parts.after

  abbrev C : Tree
  C = Three (HFun b.symbol) (at b.types) (cells zs) (at b.type)

  abbrev T : List Tree
  T = xs ++ C ∷ us

  all_closed : AreClosed (xs ++ (zs ++ us))
  all_closed = subst AreClosed parts.is closed

  fields_closed : AreClosed zs
  fields_closed = closed_left zs us (closed_right xs (zs ++ us) all_closed)

  at_types_closed : loose (at b.types) ≡ 0
  at_types_closed = omega (arith, loose_inst_types b.types ys 0 types (omega (arith, types_closed)))

  at_type_closed : loose (at b.type) ≡ 0
  at_type_closed = omega (arith, loose_inst_types b.type ys 0 types (omega (arith, type_closed)))

  built_closed : loose C ≡ 0
  built_closed = omega (arith, at_types_closed, at_type_closed, closed_cells zs fields_closed)

  terms_closed : AreClosed T
  terms_closed = closed_joined xs (C ∷ us) (closed_left xs (zs ++ us) all_closed) ((built_closed, refl), closed_right zs us (closed_right xs (zs ++ us) all_closed))

  after_many : length us ≡ i
  after_many =
      let n : length A ≡ length args = length_map at args in
      let d = length_dropped (length A - i) A (omega arith) in
      omega (arith, parts.after_many, d, n, within)

  many_terms : length T ≡ length args
  many_terms =
      let n : length A ≡ length args = length_map at args in
      let t = length_taken (length A - 1 - i) A (omega (arith, n, within)) in
      omega (arith, length-append xs (C ∷ us), parts.before_many, after_many, t, n, within)
    where
      length_taken : (n : ℕ) (xs : List Tree) → n ≤ length xs → length (take n xs) ≡ n
      length_taken zero xs l = refl
      length_taken (suc n) [] l = absurd (omega (arith, l))
      length_taken (suc n) (x ∷ xs) l = ap suc (length_taken n xs (omega (arith, l)))

  -- the body there, a `match`
  abbrev there_bs : List ConstructorBranch
  there_bs = map (changed (instantiating_many T) 0) (map (changed (typing ys) 0) bs)

  abbrev there_b : ConstructorBranch
  there_b = changed (instantiating_many T) 0 (changed (typing ys) 0 b)

  plain_at : list_all has_plain_fields (map (changed (typing ys) 0) bs) ≡ true
  plain_at = all_plain (typing ys) 0 bs plain

  arms_there : inst_many (at (arms_of bs)) T ≡ arms_of there_bs
  arms_there = ap (λ (z : Tree). inst_many z T) (changed_arms (typing ys) 0 bs plain) ∙ changed_arms (instantiating_many T) 0 (map (changed (typing ys) 0) bs) plain_at

  body_there : inst_many (at body) T ≡ Two HCase C (arms_of there_bs)
  body_there = ap (λ (z : Tree). Two HCase z (inst_many (at (arms_of bs)) T)) (parameter_at xs C us i (at ty) after_many terms_closed) ∙ ap (Two HCase C) arms_there

  chosen_there : chosen_branch b.symbol there_bs ≡ Some there_b
  chosen_there = changed_choice (instantiating_many T) 0 b.symbol (map (changed (typing ys) 0) bs) (changed (typing ys) 0 b) (changed_choice (typing ys) 0 b.symbol bs b (chosen_of bs place b different there))

  own_there : list_all is_plain_field (map at b.fields) ≡ true
  own_there = fields_plain (typing ys) 0 b.fields own_plain

  bound_there : bound_fields there_b.fields zs ≡ bound_fields b.fields zs
  bound_there = fields_bound (instantiating_many T) 0 (map at b.fields) zs own_there ∙ fields_bound (typing ys) 0 b.fields zs own_plain

  count_there : length (bound_fields b.fields zs) ≡ 0 + variable_count (map at b.fields)
  count_there =
      let n : length zs ≡ length b.fields = parts.middle_many ∙ length_map at b.fields in
      omega (arith, bound_count b.fields zs n, count_kept (typing ys) 0 b.fields own_plain)

  given_there : inst_many there_b.body (bound_fields there_b.fields zs) ≡ inst_many (at b.body) (T ++ bound_fields b.fields zs)
  given_there =
      ap (inst_many there_b.body) bound_there
      ∙ ap (λ (z : Tree). inst_many (change (instantiating_many T) (0 + variable_count (map at b.fields)) z) (bound_fields b.fields zs)) (anywhere ys (0 + variable_count b.fields) 0 b.body)
      ∙ inst_many_under T (bound_fields b.fields zs) (0 + variable_count (map at b.fields)) terms_closed count_there (at b.body)

  right_there : inst_many (at b.body) (T ++ bound_fields (map at b.fields) zs) ≡ inst_many there_b.body (bound_fields there_b.fields zs)
  right_there = ap (λ (z : List Tree). inst_many (at b.body) (T ++ z)) (fields_bound (typing ys) 0 b.fields zs own_plain) ∙ sym given_there

  built_there : C ≡ Three (HFun there_b.symbol) there_b.types (cells zs) there_b.type
  built_there = cc (sym (inst_many_closed T 0 (at b.types) at_types_closed), sym (inst_many_closed T 0 (at b.type) at_type_closed))

  chosen : IsChosenOf (inst_many (at body) T) (inst_many (at b.body) (T ++ bound_fields (map at b.fields) zs))
  chosen = record {
    scrutinee = C;
    arms = arms_of there_bs;
    is = body_there;
    chosen = record { branches = there_bs; are = refl; plain = all_plain (instantiating_many T) 0 (map (changed (typing ys) 0) bs) plain_at; branch = there_b; args = zs; is = built_there; chosen = chosen_there; gives = right_there };
  }

  -- what there is on the two sides
  many_parameters : length (branch_parameters A i B) ≡ length args
  many_parameters =
      let n : length A ≡ length args = length_map at args in
      let d = length_dropped (length A - i) A (omega arith) in
      omega (arith, length-append (variables_above (length B.fields + length (parameters_after A i)) (parameters_before A i)) (built_term A i B ∷ variables_above 0 (parameters_after A i)), many_above (length B.fields + length (parameters_after A i)) (parameters_before A i), many_above 0 (parameters_after A i), parts.before_many, many_terms, after_many, parts.after_many, length-append xs (C ∷ us))
    where
      many_above : (n : ℕ) (ts : List Tree) → length (variables_above n ts) ≡ length ts
      many_above n [] = refl
      many_above n (t ∷ ts) = ap suc (many_above n ts)

  many_own : length (pattern_fields A i B) ≡ variable_count b.fields
  many_own =
      let n : length (branch_fields A i B) ≡ length (map at b.fields) = many_above (length (parameters_after A i)) (map field_type B.fields) ∙ fields_many in
      bound_count (map at b.fields) (branch_fields A i B) n ∙ count_kept (typing ys) 0 b.fields own_plain
    where
      many_above : (n : ℕ) (ts : List Tree) → length (variables_above n ts) ≡ length ts
      many_above n [] = refl
      many_above n (t ∷ ts) = ap suc (many_above n ts)

  pub sides_there : IsUseSplit (at body) (length args) h (at left) (inst_many (branch_sides A i B (Two h (at left) (at body))) ws)
  sides_there = record {
    terms = T;
    closed = terms_closed;
    as_many = many_terms;
    right = inst_many (at b.body) (T ++ bound_fields (map at b.fields) zs);
    is = ap (inst_many (branch_sides A i B (Two h (at left) (at body)))) parts.is
        ∙ at_terms A i B h none (at left) (at body) xs zs us parts.before_many parts.middle_many parts.after_many all_closed at_types_closed at_type_closed
        (omega (arith, loose_inst_types left ys (length args) types left_loose, many_parameters))
        (omega (arith, loose_inst_types b.body ys (length args + variable_count b.fields) types body_loose, many_parameters, many_own, length-append (branch_parameters A i B) (pattern_fields A i B)));
    chosen = chosen;
  }
