-- What an instance by closed terms has of type variables and parameters: those of the tree and of the terms.
use Rattle.std.proofs.Common.{◌≡◌, ℕ, ◌+◌, ◌<◌, ◌≤◌, ◌⊎◌, inl, inr, List, [], ◌∷◌, ◌++◌, length, get_or, slice_get, Some, subst, refl, sym, ◌∙◌, arith, zero, suc}
use Rattle.trees.specs.Tree.{Tree, Leaf, One, Two, Three, Head, HTyVar, HBound, HParam, binders_over, loose, above_params, one_params}
use Rattle.trees.specs.Binding.{change, leaf_by, one_by, Bound, Param, inst, instantiating_many}
use Rattle.trees.specs.Sorts.{WellSorted}
use Rattle.trees.proofs.Above.{type_left}
use Rattle.trees.proofs.Laws.{shift_closed}
use Rattle.trees.proofs.Many.{many_below, many_at, many_above, cases_many, inst_is_many}
use Rattle.tasks.specs.Valid.{VariablesBelow, LeafBelow, ParametersOf, OneOf}
use Rattle.tasks.proofs.TypeInstances.{further as longer}

-- what is put in for a variable: a variable, or one of the terms
module _ (env : List Tree) (closed : (k : ℕ) (e : Tree) → k < length env → loose (get_or env k e) ≡ 0) where
  abbrev at : ℕ → Tree → Tree
  at d e = change (instantiating_many env) d e

  bound_by : (Q : Tree → Type 0) (d i : ℕ) (x : Tree) → ((j : ℕ) → Q (Bound j x)) → ((k : ℕ) → k < length env → Q (get_or env k x)) → Q ((instantiating_many env).bound d i x)
  bound_by Q d i x v t = by (cases_many i d (length env))
    where
      by : (i < d) ⊎ (((k : ℕ) × ((d ≤ i) × (i + k + 1 ≡ d + length env))) ⊎ (d + length env ≤ i)) → Q ((instantiating_many env).bound d i x)
      by (inl l) = subst Q (sym (many_below env d i x l)) (v i)
      by (inr (inl k)) =
          let l : k.0 < length env = omega (arith, k.1.0, k.1.1) in
          subst Q (sym (many_at env d i k.0 x k.1.0 k.1.1 ∙ shift_closed (get_or env k.0 x) d 0 (omega (arith, closed k.0 x l)))) (t k.0 l)
      by (inr (inr l)) = subst Q (sym (many_above env d i x l)) (v _)

  -- type variables
  module _ (n : ℕ) (each : (k : ℕ) (e : Tree) → k < length env → VariablesBelow n (get_or env k e)) where
    leaf_variables : (h : Head) → LeafBelow n h → VariablesBelow n (leaf_by (instantiating_many env) h)
    leaf_variables (HTyVar j) b = b
    leaf_variables _ b = b

    one_variables : (d : ℕ) (h : Head) (x : Tree) → VariablesBelow n x → VariablesBelow n (one_by (instantiating_many env) d h x)
    one_variables d (HBound i) x b = bound_by (VariablesBelow n) d i x (λ j. b) (λ k l. each k x l)
    one_variables d (HParam m) x b = b
    one_variables d _ x b = b

    pub variables_at : (d : ℕ) (e : Tree) → VariablesBelow n e → VariablesBelow n (at d e)
    variables_at d (Leaf h) b = leaf_variables h b
    variables_at d (One h a) b = one_variables d h (at d a) (variables_at d a b)
    variables_at d (Two h a b) v = (variables_at d a v.0, variables_at (d + binders_over h a) b v.1)
    variables_at d (Three h a b c) v = (variables_at d a v.0, variables_at d b v.1, variables_at d c v.2)

  -- parameters of these types
  module _ (types : List Tree) (each : (k : ℕ) (e : Tree) → k < length env → ParametersOf types (get_or env k e)) where
    one_parameters : (d : ℕ) (h : Head) (a : Tree) → WellSorted (One h a) → ParametersOf types (One h a) → ParametersOf types (at d a) → ParametersOf types (at d (One h a))
    one_parameters d (HBound i) a w p q = bound_by (ParametersOf types) d i (at d a) (λ j. (tt, q)) (λ k l. each k (at d a) l)
    one_parameters d (HParam m) a w p q =
        let same : at d a ≡ a = type_left (instantiating_many env) (λ _. refl) d a w.1 w.0 in
        subst (λ (z : Tree). ParametersOf types (Param m z)) (sym same) p
    one_parameters d h a w p q = (p.0, q)

    leaf_parameters : (h : Head) → ParametersOf types (leaf_by (instantiating_many env) h)
    leaf_parameters (HTyVar j) = tt
    leaf_parameters _ = tt

    pub parameters_at : (d : ℕ) (e : Tree) → WellSorted e → ParametersOf types e → ParametersOf types (at d e)
    parameters_at d (Leaf h) w p = leaf_parameters h
    parameters_at d (One h a) w p = one_parameters d h a w p (parameters_at d a w.1 p.1)
    parameters_at d (Two h a b) w p = (parameters_at d a w.1 p.0, parameters_at (d + binders_over h a) b w.2 p.1)
    parameters_at d (Three h a b c) w p = (parameters_at d a w.1 p.0, parameters_at d b w.2 p.1, parameters_at d c w.3 p.2)

  -- the least number above the parameters
  module _ (m : ℕ) (each : (k : ℕ) (e : Tree) → k < length env → above_params (get_or env k e) ≤ m) where
    one_le : (h : Head) (k n : ℕ) → one_params h k ≤ n → k ≤ n
    one_le (HParam i) k n l = omega arith
    one_le _ k n l = l

    one_above : (d : ℕ) (h : Head) (x a : Tree) → one_params h (above_params a) ≤ m → above_params x ≤ m → above_params (one_by (instantiating_many env) d h x) ≤ m
    one_above d (HBound i) x a l q = bound_by (λ z. above_params z ≤ m) d i x (λ j. q) (λ k n. each k x n)
    one_above d (HParam i) x a l q = omega arith
    one_above d _ x a l q = q

    leaf_above : (h : Head) → above_params (leaf_by (instantiating_many env) h) ≤ m
    leaf_above (HTyVar j) = omega arith
    leaf_above _ = omega arith

    pub above_at : (d : ℕ) (e : Tree) → above_params e ≤ m → above_params (at d e) ≤ m
    above_at d (Leaf h) l = leaf_above h
    above_at d (One h a) l = one_above d h (at d a) a l (above_at d a (one_le h (above_params a) m l))
    above_at d (Two h a b) l = omega (arith, above_at d a (omega arith), above_at (d + binders_over h a) b (omega arith))
    above_at d (Three h a b c) l = omega (arith, above_at d a (omega arith), above_at d b (omega arith), above_at d c (omega arith))

-- one closed term
module _ (t : Tree) (closed : loose t ≡ 0) where
  one_each : (Q : Tree → Type 0) → Q t → (k : ℕ) (e : Tree) → k < length (t ∷ []) → Q (get_or (t ∷ []) k e)
  one_each Q q zero e l = q
  one_each Q q (suc k) e l = absurd (omega arith)

  pub inst_variables : (n : ℕ) (e : Tree) → VariablesBelow n t → VariablesBelow n e → VariablesBelow n (inst e t)
  inst_variables n e x b =
      subst (VariablesBelow n) (inst_is_many e t) (variables_at (t ∷ []) (one_each (λ z. loose z ≡ 0) closed) n (one_each (VariablesBelow n) x) 0 e b)

  pub inst_parameters : (types : List Tree) (e : Tree) → WellSorted e → ParametersOf types t → ParametersOf types e → ParametersOf types (inst e t)
  inst_parameters types e w x p =
      subst (ParametersOf types) (inst_is_many e t) (parameters_at (t ∷ []) (one_each (λ z. loose z ≡ 0) closed) types (one_each (ParametersOf types) x) 0 e w p)

  pub inst_above : (m : ℕ) (e : Tree) → above_params t ≤ m → above_params e ≤ m → above_params (inst e t) ≤ m
  inst_above m e x l =
      subst (λ (z : Tree). above_params z ≤ m) (inst_is_many e t) (above_at (t ∷ []) (one_each (λ z. loose z ≡ 0) closed) m (one_each (λ z. above_params z ≤ m) x) 0 e l)

-- ---- parameters of a list of types are below its length, and stay those of a longer list

one_longer : (types more : List Tree) (h : Head) (a : Tree) → OneOf types h a → OneOf (types ++ more) h a
one_longer types more (HParam n) a p = longer types more n a p
one_longer types more _ a p = tt

pub parameters_longer : (types more : List Tree) (e : Tree) → ParametersOf types e → ParametersOf (types ++ more) e
parameters_longer types more (Leaf h) p = tt
parameters_longer types more (One h a) p = (one_longer types more h a p.0, parameters_longer types more a p.1)
parameters_longer types more (Two h a b) p = (parameters_longer types more a p.0, parameters_longer types more b p.1)
parameters_longer types more (Three h a b c) p = (parameters_longer types more a p.0, parameters_longer types more b p.1, parameters_longer types more c p.2)

pub slot : (types : List Tree) (n : ℕ) (a : Tree) → slice_get types n ≡ Some a → n < length types
slot [] n a h = absurd (cc)
slot (x ∷ xs) zero a h = omega arith
slot (x ∷ xs) (suc n) a h = omega (arith, slot xs n a h)

one_within : (types : List Tree) (h : Head) (a : Tree) → OneOf types h a → above_params a ≤ length types → one_params h (above_params a) ≤ length types
one_within types (HParam n) a p l = omega (arith, slot types n a p)
one_within types _ a p l = l

pub parameters_within : (types : List Tree) (e : Tree) → ParametersOf types e → above_params e ≤ length types
parameters_within types (Leaf h) p = omega arith
parameters_within types (One h a) p = one_within types h a p.0 (parameters_within types a p.1)
parameters_within types (Two h a b) p = omega (arith, parameters_within types a p.0, parameters_within types b p.1)
parameters_within types (Three h a b c) p = omega (arith, parameters_within types a p.0, parameters_within types b p.1, parameters_within types c p.2)
