-- A formula without parameters has none at types.
use Rattle.std.proofs.Common.{◌≡◌, ℕ, zero, suc, ◌≤◌, List, [], ◌∷◌, get_or, All, inl, sym, subst, arith}
use Rattle.tasks.specs.trees.Tree.{Tree, Leaf, One, Two, Three, Head, HTyVar, HBound, HParam, one_params, above_params}
use Rattle.tasks.specs.trees.Binding.{inst_types, TyVar}
use Rattle.tasks.proofs.trees.Instances.{inst_two}
use Rattle.tasks.proofs.trees.Types.{only_types}
use Rattle.tasks.specs.Task.{TaskTree}
use Rattle.tasks.specs.Vocabulary.{of_task}
use Rattle.tasks.specs.Valid.{OneOf, ParametersOf, IsTypeOver}
use Rattle.tasks.proofs.Closing.{typed_sorted}
use Rattle.walking.proofs.images.TypesAt.{types_above}

type_has_none : (t : TaskTree) (x : Tree) → IsTypeOver t 0 x → above_params x ≤ 0
type_has_none t x o = omega (arith, types_above x (only_types x (typed_sorted (of_task t) [] x o.typed) (inl o.sort)))

types_have_none : (t : TaskTree) (ys : List Tree) → All (IsTypeOver t 0) ys → (j : ℕ) (e : Tree) → above_params e ≤ 0 → above_params (get_or ys j e) ≤ 0
types_have_none t [] a j e n = n
types_have_none t (x ∷ xs) a zero e n = type_has_none t x (a 0 x (omega arith))
types_have_none t (x ∷ xs) a (suc j) e n = types_have_none t xs (λ i d l. a (suc i) d (omega arith)) j e n

one_at : (h : Head) (a b : Tree) → OneOf [] h a → above_params b ≤ 0 → one_params h (above_params b) ≤ 0
one_at (HParam i) a b p l = absurd (cc)
one_at _ a b p l = l

module _ (ys : List Tree) (none : (j : ℕ) → above_params (get_or ys j (TyVar j)) ≤ 0) where
  none_at_types : (e : Tree) → ParametersOf [] e → above_params (inst_types e ys) ≤ 0
  none_at_types (Leaf (HTyVar j)) p = none j
  none_at_types (Leaf _) p = omega arith
  none_at_types (One (HBound i) a) p = none_at_types a p.1
  none_at_types (One (HParam n) a) p = absurd (let q = p.0 in cc)
  none_at_types (One h a) p = one_at h a (inst_types a ys) p.0 (none_at_types a p.1)
  none_at_types (Two h a b) p = subst (λ (z : Tree). above_params z ≤ 0) (sym (inst_two ys h a b)) (omega (arith, none_at_types a p.0, none_at_types b p.1))
  none_at_types (Three h a b c) p = omega (arith, none_at_types a p.0, none_at_types b p.1, none_at_types c p.2)

pub no_parameters_at : (t : TaskTree) (ys : List Tree) → All (IsTypeOver t 0) ys → (e : Tree) → ParametersOf [] e → above_params (inst_types e ys) ≤ 0
no_parameters_at t ys a e p = none_at_types ys (λ j. types_have_none t ys a j (TyVar j) (omega arith)) e p
