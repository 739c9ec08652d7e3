-- Assignments as instances at types, and what is promised of numbers in a store, said of pairs of trees.
use Rattle.std.proofs.Common.{◌≡◌, ℕ, ◌+◌, ◌<◌, List, [], ◌∷◌, take, length, get_or, zero, suc, Option, Some, None, refl, sym, ap, subst, ◌∙◌, arith}
use Rattle.trees.specs.declared.TermId.{TermId}
use Rattle.trees.specs.Tree.{Tree, Leaf, One, Two, Three, Head, HTyVar, HBound, HParam, binders_over}
use Rattle.trees.specs.Sorts.{WellSorted}
use Rattle.trees.specs.Node.{tree_at}
use Rattle.trees.specs.Binding.{change, leaf_by, one_by, typing, TyVar}
use Rattle.trees.specs.Facts.{TyVarsBelow, leaf_below}
use Rattle.open_types.specs.declared.unify_types.Equation.{Equation}
use Rattle.open_types.specs.declared.unify_types.UnifyFault.{UnifyFault}
use Rattle.open_types.specs.declared.unify_types.UnifyFault.TheVariants.{Memory, Clash}
use Rattle.open_types.specs.unify_types.Assigned.{assign, Solves}
use Rattle.open_types.specs.unify_types.Solution.{IsEquation, AreEquations, HasSolution, HasNoSolution, HasMostGeneral, IsOpenUnknown, IsValue, IsLeastClash}
use Rattle.open_types.specs.unify_types.Pairs.{HoldsEquation, HoldEquations, equations_at, SolvesAll, IsSolvable, IsUnsolvable, HasPrincipal, IsLeftOpen, IsFixedAs, IsLeastPrefix}
use Rattle.open_types.proofs.unify_types.SortedTypes.{kind_is_type, type_is_kind}

-- where assignments and instances at types meet: a tree whose type variables are below the number of types, at the types that are
-- assigned to them
module _ (r : ℕ) (f : ℕ → Tree) (tys : List Tree) (given : (j : ℕ) → j < length tys → get_or tys j (TyVar j) ≡ assign r f (TyVar j)) where
  leaf_instance : (h : Head) → leaf_below h (length tys) → leaf_by (typing tys) h ≡ assign r f (Leaf h)
  leaf_instance (HTyVar j) b = given j b
  leaf_instance _ b = refl

  one_instance : (d : ℕ) (h : Head) (a : Tree) → one_by (typing tys) d h a ≡ One h a
  one_instance d (HBound i) a = refl
  one_instance d (HParam n) a = refl
  one_instance d _ a = refl

  pub is_instance : (d : ℕ) (e : Tree) → TyVarsBelow (length tys) e → change (typing tys) d e ≡ assign r f e
  is_instance d (Leaf h) b = leaf_instance h b
  is_instance d (One h a) b = one_instance d h (change (typing tys) d a) ∙ ap (One h) (is_instance d a b)
  is_instance d (Two h a b) w = cc (is_instance d a w.0, is_instance (d + binders_over h a) b w.1)
  is_instance d (Three h a b c) w = cc (is_instance d a w.0, is_instance d b w.1, is_instance d c w.2)

solves_pairs : (r : ℕ) (f : ℕ → Tree) (s : List Tree) (es : List Equation) → Solves r f s es → SolvesAll r f (equations_at s es)
solves_pairs r f s [] h = tt
solves_pairs r f s (e ∷ es) h = (h.0, solves_pairs r f s es h.1)

pairs_solve : (r : ℕ) (f : ℕ → Tree) (s : List Tree) (es : List Equation) → SolvesAll r f (equations_at s es) → Solves r f s es
pairs_solve r f s [] h = tt
pairs_solve r f s (e ∷ es) h = (h.0, pairs_solve r f s es h.1)

take_pairs : (s : List Tree) (k : ℕ) (es : List Equation) → equations_at s (take k es) ≡ take k (equations_at s es)
take_pairs s zero es = refl
take_pairs s (suc k) [] = refl
take_pairs s (suc k) (e ∷ es) = cc (take_pairs s k es)

length_pairs : (s : List Tree) (es : List Equation) → length (equations_at s es) ≡ length es
length_pairs s [] = refl
length_pairs s (e ∷ es) = omega (arith, length_pairs s es)

-- ---- the equations are of types
pub equation_is : (s : List Tree) (e : Equation) → HoldsEquation s e → WellSorted (tree_at s e.left) → WellSorted (tree_at s e.right) → IsEquation s e
equation_is s e h l r = record { left_held = h.left_held; right_held = h.right_held; left_type = kind_is_type (tree_at s e.left) l h.left_kind; right_type = kind_is_type (tree_at s e.right) r h.right_kind }

-- ---- what is promised
pub principal : (r : ℕ) (s : List Tree) (es : List Equation) → HasMostGeneral r s es → HasPrincipal r (equations_at s es)
principal r s es g = record {
  assigned = g.assigned;
  solution = record { types = λ j. type_is_kind (g.assigned j) (g.types j); solves = solves_pairs r g.assigned s es g.solves };
  general = λ f h j l. g.general f (pairs_solve r f s es h) j l;
}

open_at : (r : ℕ) (s : List Tree) (es : List Equation) (u : ℕ) → IsOpenUnknown r s es u → IsLeftOpen r (equations_at s es) u
open_at r s es u o = record {
  first = o.first;
  second = o.second;
  first_solves = record { types = λ j. type_is_kind (o.first j) (o.first_types j); solves = solves_pairs r o.first s es o.first_solves };
  second_solves = record { types = λ j. type_is_kind (o.second j) (o.second_types j); solves = solves_pairs r o.second s es o.second_solves };
  differ = o.differ;
}

pub fixed_as : (r : ℕ) (s : List Tree) (es : List Equation) (new : List Tree) (u : ℕ) (o : Option TermId) → IsValue r s es new u o → IsFixedAs r (equations_at s es) new u o
fixed_as r s es new u None v = open_at r s es u v
fixed_as r s es new u (Some id) v = (v.0, λ f h. v.1 f (pairs_solve r f s es h))

unsolvable : (r : ℕ) (s : List Tree) (es : List Equation) (k : ℕ) → HasNoSolution r s (take k es) → IsUnsolvable r (take k (equations_at s es))
unsolvable r s es k n f h = n f (pairs_solve r f s (take k es) (subst (SolvesAll r f) (sym (take_pairs s k es)) h))

solvable_before : (r : ℕ) (s : List Tree) (es : List Equation) (k : ℕ) → HasSolution r s (take k es) → IsSolvable r (take k (equations_at s es))
solvable_before r s es k h = (h.assigned, record { types = λ j. type_is_kind (h.assigned j) (h.types j); solves = subst (SolvesAll r h.assigned) (take_pairs s k es) (solves_pairs r h.assigned s (take k es) h.solves) })

pub least_prefix : (r : ℕ) (s : List Tree) (es : List Equation) (fault : UnifyFault) → IsLeastClash r s es fault → IsLeastPrefix r (equations_at s es) fault
least_prefix r s es Memory c = tt
least_prefix r s es (Clash k) c = (omega (arith, c.0, length_pairs s es), unsolvable r s es (k + 1) c.1, solvable_before r s es k c.2)

pub more_equations : (s : List Tree) (es rest : List Equation) (e : Equation) → es ≡ e ∷ rest → IsEquation s e → AreEquations s rest → AreEquations s es
more_equations s es rest e q h t = subst (λ (z : List Equation). AreEquations s z) (sym q) (by h t)
  where
    by : IsEquation s e → AreEquations s rest → AreEquations s (e ∷ rest)
    by h t zero d l = h
    by h t (suc k) d l = t k d (omega arith)

pub no_equations : (s : List Tree) (es : List Equation) → length es ≡ 0 → AreEquations s es
no_equations s es z k d l = absurd (omega arith)

pub rest_equations : (s : List Tree) (es rest : List Equation) (e : Equation) → es ≡ e ∷ rest → HoldEquations s es → HoldsEquation s e × HoldEquations s rest
rest_equations s es rest e q h =
    let g : HoldEquations s (e ∷ rest) = subst (λ (z : List Equation). HoldEquations s z) q h in
    (g 0 e (omega arith), λ k d l. g (suc k) d (omega arith))
