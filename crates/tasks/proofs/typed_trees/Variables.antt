-- The types of open variables.
use Rattle.std.proofs.Common.{◌≡◌, ℕ, ◌+◌, ◌≤◌, List, [], ◌∷◌, ◌++◌, length, min, Option, Some, sym, subst, ap, ◌∙◌, arith}
use Rattle.trees.specs.Tree.{Tree, Leaf, One, Two, Three, Head, HBound, HCell, HPatAlias, loose, pat_vars, binders_over}
use Rattle.trees.specs.Sorts.{WellSorted, type_of}
use Rattle.trees.specs.laws.Changes.{one_loose_le}
use Rattle.trees.proofs.Types.{type_closed}
use Rattle.trees.specs.binders.Depth.{IsDepth, IsUnder}
use Rattle.tasks.specs.Typing.{pattern_types, option_list}
use Rattle.tasks.specs.Open.{VariableHas, VariablesHave, one_has}
use Rattle.tasks.proofs.Counts.{pattern_count}
use Rattle.tasks.specs.typed_trees.Variables.{HasAt, CanHave, HaveAt, CanHaveAll}
use Rattle.trees.proofs.binders.Rebuilt.{deeper}

one_closed : (d : ℕ) (ty : Tree) (h : Head) (a : Tree) → loose (One h a) ≤ d → one_has d ty h a
one_closed d ty (HBound i) a l = λ q. absurd (omega arith)
one_closed d ty _ a l = tt

closed_has : (d : ℕ) (ty e : Tree) → loose e ≤ d → VariableHas d ty e
closed_has d ty (Leaf h) l = tt
closed_has d ty (One h a) l = (one_closed d ty h a l, closed_has d ty a (one_loose_le h (loose a) d l))
closed_has d ty (Two h a b) l = (closed_has d ty a (omega arith), closed_has (d + binders_over h a) ty b (omega arith))
closed_has d ty (Three h a b c) l = (closed_has d ty a (omega arith), closed_has d ty b (omega arith), closed_has d ty c (omega arith))

pub closed_at : (depth : ℕ) (ty e : Tree) → loose e ≤ depth → HasAt depth ty e
closed_at depth ty e l = record { is = λ d i. closed_has d ty e (omega arith) }

pub at_zero : (ty e : Tree) → HasAt 0 ty e → VariableHas 0 ty e
at_zero ty e h = h.is 0 (omega arith)

pub can_zero : (ty e : Tree) → VariableHas 0 ty e → CanHave 0 ty e
can_zero ty e h = record { d = 0; is_depth = omega arith; is = h }

module _ (depth i : ℕ) (ty a e : Tree) (w : WellSorted e) (q : e ≡ One (HBound i) a) where
  sorted : WellSorted (One (HBound i) a)
  sorted = rw q at w

  type_has : (d : ℕ) → VariableHas d ty a
  type_has d = closed_has d ty a (omega (arith, type_closed a sorted.1 sorted.0.0))

  pub bound_at : (i ≡ depth → a ≡ ty) → HasAt depth ty e
  bound_at f = record { is = λ d k. rw q ((λ m. f (omega (arith, sorted.0.1)), type_has d)) }

  pub bound_can : i ≡ depth → CanHave depth ty e → a ≡ ty
  bound_can m c = let v : VariableHas c.d ty (One (HBound i) a) = rw q at c.is in v.0 (omega (arith, c.is_depth, sorted.0.1))

module _ (depth under : ℕ) (ty a b e : Tree) (h : Head) (q : e ≡ Two h a b) (u : IsUnder depth under h a) where
  pub two_at : HasAt depth ty a → HasAt under ty b → HasAt depth ty e
  two_at x y = record { is = λ d k. rw q ((x.is d k, y.is (d + binders_over h a) (deeper depth under d h a u k))) }

  pub two_can : CanHave depth ty e → CanHave depth ty a × CanHave under ty b
  two_can c =
      let v : VariableHas c.d ty (Two h a b) = rw q at c.is in
      (record { d = c.d; is_depth = c.is_depth; is = v.0 }, record { d = c.d + binders_over h a; is_depth = deeper depth under c.d h a u c.is_depth; is = v.1 })

-- ---- the variables of a list, and of a pattern
front : (d : ℕ) (xs ys : List Tree) (e : Tree) → VariablesHave d (xs ++ ys) e → VariablesHave d xs e × VariablesHave (d + length xs) ys e
front d [] ys e v = (tt, subst (λ (n : ℕ). VariablesHave n ys e) (let q : d ≡ d + 0 = omega arith in q) v)
front d (x ∷ xs) ys e v =
    let rest = front (d + 1) xs ys e v.1 in
    ((v.0, rest.0), subst (λ (n : ℕ). VariablesHave n ys e) (let q : (d + 1) + length xs ≡ d + length (x ∷ xs) = omega arith in q) rest.1)

following : (d : ℕ) (xs ys : List Tree) (e : Tree) → VariablesHave d xs e → VariablesHave (d + length xs) ys e → VariablesHave d (xs ++ ys) e
following d [] ys e v w = subst (λ (n : ℕ). VariablesHave n ys e) (let q : d + 0 ≡ d = omega arith in q) w
following d (x ∷ xs) ys e v w =
    (v.0, following (d + 1) xs ys e v.1 (subst (λ (n : ℕ). VariablesHave n ys e) (let q : d + length (x ∷ xs) ≡ (d + 1) + length xs = omega arith in q) w))

module _ (depth under : ℕ) (a p ty e : Tree) (q : p ≡ One HPatAlias a) (t : type_of a ≡ Some ty) (u : under ≡ min (depth + 1) 18446744073709551615) where
  types_are : pattern_types p ≡ ty ∷ pattern_types a
  types_are = ap pattern_types q ∙ ap (λ (o : Option Tree). option_list o ++ pattern_types a) t

  pub alias_can : CanHaveAll depth (pattern_types p) e → CanHaveAll under (pattern_types a) e
  alias_can c =
      let v : VariablesHave c.d (ty ∷ pattern_types a) e = subst (λ (z : List Tree). VariablesHave c.d z e) types_are c.is in
      record { d = c.d + 1; is_depth = omega (arith, u, c.is_depth); is = v.1 }

module _ (depth count under : ℕ) (a b p e : Tree) (q : p ≡ Two HCell a b) (w : WellSorted p) (n : count ≡ min (pat_vars b) 18446744073709551615) (u : under ≡ min (depth + count) 18446744073709551615) where
  cell_types : pattern_types p ≡ pattern_types b ++ pattern_types a
  cell_types = ap pattern_types q

  counted : length (pattern_types b) ≡ pat_vars b
  counted = let s : WellSorted (Two HCell a b) = rw q at w in pattern_count b s.2

  pub cell_at : HaveAt depth (pattern_types b) e → HaveAt under (pattern_types a) e → HaveAt depth (pattern_types p) e
  cell_at x y = record { is = λ d k. subst (λ (z : List Tree). VariablesHave d z e) (sym cell_types) (following d (pattern_types b) (pattern_types a) e (x.is d k) (y.is (d + length (pattern_types b)) (omega (arith, counted, n, u, k)))) }

  pub cell_can : CanHaveAll depth (pattern_types p) e → CanHaveAll depth (pattern_types b) e × CanHaveAll under (pattern_types a) e
  cell_can c =
      let v = front c.d (pattern_types b) (pattern_types a) e (subst (λ (z : List Tree). VariablesHave c.d z e) cell_types c.is) in
      (record { d = c.d; is_depth = c.is_depth; is = v.0 }, record { d = c.d + length (pattern_types b); is_depth = omega (arith, counted, n, u, c.is_depth); is = v.1 })
