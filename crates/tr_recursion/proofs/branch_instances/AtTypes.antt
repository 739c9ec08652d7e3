-- The equation of a branch at types.
use Rattle.std.proofs.Common.{◌≡◌, ℕ, zero, suc, ◌+◌, ◌-◌, Bool, true, false, if◌then◌else◌, List, [], ◌∷◌, ◌++◌, map, take, drop, length, refl, sym, ap, ◌∙◌, arith}
use Rattle.std.specs.List.{list_all}
use Rattle.std.proofs.lemmas.List.{map-append}
use Rattle.tasks.proofs.plain_laws.Bools.{and_first, and_second}
use Rattle.tasks.specs.trees.Tree.{Tree, Leaf, One, Two, Three, Head, HFun, HPatAny, HPatVar, binders_over}
use Rattle.tasks.specs.trees.Binding.{change, one_by, typing, inst_types, inst_many, AreTypes, AreNoPatterns}
use Rattle.tasks.proofs.trees.Many.{length_map, inst_types_inst_many}
use Rattle.tasks.specs.Equations.{cells, for_all}
use Rattle.tr_inline.proofs.inlining.Equations.{equation_types}
use Rattle.tr_inline.specs.inlining.branch_equations.Branches.{ConstructorBranch, is_plain_field, is_variable_field, field_type, bound_fields, below_quantifiers, parameters_before, parameters_after, variables_above, branch_types, branch_fields, built_term, branch_parameters, pattern_fields, branch_sides, branch_equation}
use Rattle.tr_recursion.proofs.branch_instances.Arms.{changed_cells, fields_bound}
use Rattle.tr_inline.proofs.inlining.branch_equations.AtTerms.{plain_append as joined_plain}

-- ---- terms that are no patterns
above_plain : (n : ℕ) (types : List Tree) → AreNoPatterns (variables_above n types)
above_plain n [] = tt
above_plain n (ty ∷ types) = (refl, above_plain n types)

bound_plain : (ps zs : List Tree) → AreNoPatterns zs → AreNoPatterns (bound_fields ps zs)
bound_plain [] [] a = tt
bound_plain [] (z ∷ zs) a = tt
bound_plain (p ∷ ps) [] a = tt
bound_plain (p ∷ ps) (z ∷ zs) a = by (is_variable_field p) (bound_plain ps zs a.1)
  where
    by : (t : Bool) → AreNoPatterns (bound_fields ps zs) → AreNoPatterns (if t then z ∷ bound_fields ps zs else bound_fields ps zs)
    by true c = (a.0, c)
    by false c = c

-- ---- lists
taken : (f : Tree → Tree) (n : ℕ) (xs : List Tree) → map f (take n xs) ≡ take n (map f xs)
taken f zero xs = refl
taken f (suc n) [] = refl
taken f (suc n) (x ∷ xs) = ap (λ (z : List Tree). f x ∷ z) (taken f n xs)

dropped : (f : Tree → Tree) (n : ℕ) (xs : List Tree) → map f (drop n xs) ≡ drop n (map f xs)
dropped f zero xs = refl
dropped f (suc n) [] = refl
dropped f (suc n) (x ∷ xs) = dropped f n xs

bound_mapped : (f : Tree → Tree) (ps zs : List Tree) → map f (bound_fields ps zs) ≡ bound_fields ps (map f zs)
bound_mapped f [] [] = refl
bound_mapped f [] (z ∷ zs) = refl
bound_mapped f (p ∷ ps) [] = refl
bound_mapped f (p ∷ ps) (z ∷ zs) = by (is_variable_field p) (bound_mapped f ps zs)
  where
    by : (t : Bool) → map f (bound_fields ps zs) ≡ bound_fields ps (map f zs) → map f (if t then z ∷ bound_fields ps zs else bound_fields ps zs) ≡ (if t then f z ∷ bound_fields ps (map f zs) else bound_fields ps (map f zs))
    by true q = ap (λ (w : List Tree). f z ∷ w) q
    by false q = q

module _ (ys : List Tree) where
  -- types are the same under binders
  one_anywhere : (d p : ℕ) (h : Head) (x y : Tree) → x ≡ y → one_by (typing ys) d h x ≡ one_by (typing ys) p h y
  one_anywhere d p h x y e = ap (one_by (typing ys) 0 h) e

  pub anywhere : (d p : ℕ) (e : Tree) → change (typing ys) d e ≡ change (typing ys) p e
  anywhere d p (Leaf h) = refl
  anywhere d p (One h a) = one_anywhere d p h _ _ (anywhere d p a)
  anywhere d p (Two h a b) = cc (anywhere d p a, anywhere (d + binders_over h a) (p + binders_over h a) b)
  anywhere d p (Three h a b c) = cc (anywhere d p a, anywhere d p b, anywhere d p c)

  abbrev pub at : Tree → Tree
  at e = inst_types e ys

  -- a branch at types
  abbrev pub branch_at : ConstructorBranch → ConstructorBranch
  branch_at b = record { symbol = b.symbol; types = at b.types; fields = map at b.fields; type = at b.type; body = at b.body }

  above_at : (n : ℕ) (types : List Tree) → map at (variables_above n types) ≡ variables_above n (map at types)
  above_at n [] = refl
  above_at n (ty ∷ types) =
      let l : length types + n ≡ length (map at types) + n = omega (arith, length_map at types) in
      cc (l, above_at n types)

  types_at : (ps : List Tree) → list_all is_plain_field ps ≡ true → map at (map field_type ps) ≡ map field_type (map at ps)
  types_at [] k = refl
  types_at (p ∷ ps) k = cc (one_type p (and_first (is_plain_field p) (list_all is_plain_field ps) k), types_at ps (and_second (is_plain_field p) (list_all is_plain_field ps) k))
    where
      one_type : (p : Tree) → is_plain_field p ≡ true → at (field_type p) ≡ field_type (at p)
      one_type (One HPatVar ty) k = refl
      one_type (One HPatAny ty) k = refl
      one_type _ k = absurd (cc)

  module _ (args : List Tree) (i : ℕ) where
    before_at : map at (parameters_before args i) ≡ parameters_before (map at args) i
    before_at = taken at (length args - 1 - i) args ∙ ap (λ (n : ℕ). take (n - 1 - i) (map at args)) (sym (length_map at args))

    after_at : map at (parameters_after args i) ≡ parameters_after (map at args) i
    after_at = dropped at (length args - i) args ∙ ap (λ (n : ℕ). drop (n - i) (map at args)) (sym (length_map at args))

    length_after : length (parameters_after args i) ≡ length (parameters_after (map at args) i)
    length_after = sym (length_map at (parameters_after args i)) ∙ ap length after_at

    module _ (b : ConstructorBranch) (plain : list_all is_plain_field b.fields ≡ true) where
      pub branch_types_at : map at (branch_types args i b) ≡ branch_types (map at args) i (branch_at b)
      branch_types_at =
          map-append at (parameters_before args i) (map field_type b.fields ++ parameters_after args i)
          ∙ ap (λ (z : List Tree). z ++ map at (map field_type b.fields ++ parameters_after args i)) before_at
          ∙ ap (λ (z : List Tree). parameters_before (map at args) i ++ z) (map-append at (map field_type b.fields) (parameters_after args i) ∙ cc (types_at b.fields plain, after_at))

      fields_are : map at (branch_fields args i b) ≡ branch_fields (map at args) i (branch_at b)
      fields_are =
          above_at (length (parameters_after args i)) (map field_type b.fields)
          ∙ ap (λ (z : List Tree). variables_above (length (parameters_after args i)) z) (types_at b.fields plain)
          ∙ ap (λ (n : ℕ). variables_above n (map field_type (map at b.fields))) length_after

      built_is : at (built_term args i b) ≡ built_term (map at args) i (branch_at b)
      built_is = ap (λ (z : Tree). Three (HFun b.symbol) (at b.types) z (at b.type)) (changed_cells (typing ys) 0 (branch_fields args i b) ∙ ap cells fields_are)

      parameters_are : map at (branch_parameters args i b) ≡ branch_parameters (map at args) i (branch_at b)
      parameters_are =
          let n : length b.fields + length (parameters_after args i) ≡ length (map at b.fields) + length (parameters_after (map at args) i) = omega (arith, length_map at b.fields, length_after) in
          map-append at (variables_above (length b.fields + length (parameters_after args i)) (parameters_before args i)) (built_term args i b ∷ variables_above 0 (parameters_after args i))
          ∙ ap (λ (z : List Tree). z ++ map at (built_term args i b ∷ variables_above 0 (parameters_after args i)))
          (above_at (length b.fields + length (parameters_after args i)) (parameters_before args i) ∙ ap (λ (z : List Tree). variables_above (length b.fields + length (parameters_after args i)) z) before_at ∙ ap (λ (m : ℕ). variables_above m (parameters_before (map at args) i)) n)
          ∙ ap (λ (z : List Tree). variables_above (length (map at b.fields) + length (parameters_after (map at args) i)) (parameters_before (map at args) i) ++ z)
          (ap (λ (z : Tree). z ∷ map at (variables_above 0 (parameters_after args i))) built_is ∙ ap (λ (z : List Tree). built_term (map at args) i (branch_at b) ∷ z) (above_at 0 (parameters_after args i) ∙ ap (variables_above 0) after_at))

      own_are : map at (pattern_fields args i b) ≡ pattern_fields (map at args) i (branch_at b)
      own_are = bound_mapped at b.fields (branch_fields args i b) ∙ ap (bound_fields b.fields) fields_are ∙ sym (fields_bound (typing ys) 0 b.fields (branch_fields (map at args) i (branch_at b)) plain)

      parameters_plain : AreNoPatterns (branch_parameters args i b)
      parameters_plain = joined_plain (variables_above (length b.fields + length (parameters_after args i)) (parameters_before args i)) _ (above_plain _ (parameters_before args i)) (refl, above_plain 0 (parameters_after args i))

      own_plain : AreNoPatterns (pattern_fields args i b)
      own_plain = bound_plain b.fields (branch_fields args i b) (above_plain (length (parameters_after args i)) (map field_type b.fields))

      module _ (types : AreTypes ys) (h : Head) (none : (a : Tree) → binders_over h a ≡ 0) (left body : Tree) where
        abbrev ps : List Tree
        ps = branch_parameters args i b

        abbrev qs : List Tree
        qs = ps ++ pattern_fields args i b

        pub sides_at_types : at (branch_sides args i b (Two h left body)) ≡ branch_sides (map at args) i (branch_at b) (Two h (at left) (at body))
        sides_at_types =
            anywhere_two (inst_many left ps) (inst_many b.body qs)
            ∙ cc (
              inst_types_inst_many left ps ys types parameters_plain ∙ ap (inst_many (at left)) parameters_are,
              inst_types_inst_many b.body qs ys types (joined_plain ps (pattern_fields args i b) parameters_plain own_plain)
                  ∙ ap (inst_many (at b.body)) (map-append at ps (pattern_fields args i b) ∙ ap (λ (z : List Tree). z ++ map at (pattern_fields args i b)) parameters_are ∙ ap (λ (z : List Tree). branch_parameters (map at args) i (branch_at b) ++ z) own_are),
            )
          where
            anywhere_two : (x y : Tree) → at (Two h x y) ≡ Two h (at x) (at y)
            anywhere_two x y = ap (λ (n : ℕ). Two h (at x) (change (typing ys) (0 + n) y)) (none x)

        pub equation_at_types : (equation : Tree) → below_quantifiers equation ≡ Two h left body
            → at (branch_equation args equation i b) ≡ for_all (branch_types (map at args) i (branch_at b)) (branch_sides (map at args) i (branch_at b) (Two h (at left) (at body)))
        equation_at_types equation e =
            equation_types ys (branch_types args i b) (branch_sides args i b (below_quantifiers equation))
            ∙ ap (λ (z : List Tree). for_all z (at (branch_sides args i b (below_quantifiers equation)))) branch_types_at
            ∙ ap (for_all (branch_types (map at args) i (branch_at b))) (ap (λ (z : Tree). at (branch_sides args i b z)) e ∙ sides_at_types)
