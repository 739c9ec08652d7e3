-- The quantifiers of a formula: opened at a term, those that are left are counted as before.
use Rattle.std.proofs.Common.{◌≡◌, ℕ, ◌<◌, ◌+◌, ◌-◌, ◌==◌, nat_lt, suc, Bool, true, false, if◌then◌else◌, List, [], ◌∷◌, refl, sym, ap, subst, ◌∙◌, arith}
use Rattle.trees.specs.declared.TermId.{TermId}
use Rattle.trees.specs.declared.Node.{Node}
use Rattle.trees.specs.declared.Node.TheVariants.{Forall}
use Rattle.trees.specs.Tree.{Tree, Leaf, One, Two, Three, Head, HTyVar, HBound, HParam, HForall, binders_over, loose}
use Rattle.trees.specs.Node.{node_tree}
use Rattle.trees.specs.Binding.{Change, leaf_by, one_by, change, shift, instantiating, inst, Bound, Param}
use Rattle.trees.specs.laws.Sorts.{term_no_vars}
use Rattle.tasks.specs.Task.{TaskTree}
use Rattle.tr_inline.specs.inlining.branch_equations.Branches.{quantifiers}
use Rattle.tr_recursion.specs.branch_steps.Instances.{IsBranchInstance, OpensToBranch}

-- a change that puts no quantifier in for a variable, a parameter or a type variable
record PutsNone (f : Change) : Type 0 where
  bound : (d i : ℕ) (ty : Tree) → quantifiers (f.bound d i ty) ≡ 0
  param : (d n : ℕ) (ty : Tree) → quantifiers (f.param d n ty) ≡ 0
  ty_var : (j : ℕ) → quantifiers (f.ty_var j) ≡ 0

module _ (f : Change) (p : PutsNone f) where
  leaf_none : (h : Head) → quantifiers (leaf_by f h) ≡ 0
  leaf_none (HTyVar j) = p.ty_var j
  leaf_none _ = refl

  one_none : (d : ℕ) (h : Head) (x : Tree) → quantifiers (one_by f d h x) ≡ 0
  one_none d (HBound i) x = p.bound d i x
  one_none d (HParam n) x = p.param d n x
  one_none d _ x = refl

  two_same : (h : Head) (a b x y : Tree) → quantifiers b ≡ quantifiers y → quantifiers (Two h a b) ≡ quantifiers (Two h x y)
  two_same HForall a b x y q = ap suc q
  two_same _ a b x y q = refl

  counted : (d : ℕ) (e : Tree) → quantifiers (change f d e) ≡ quantifiers e
  counted d (Leaf h) = leaf_none h
  counted d (One h a) = one_none d h (change f d a)
  counted d (Two h a b) = two_same h (change f d a) (change f (d + binders_over h a) b) a b (counted (d + binders_over h a) b)
  counted d (Three h a b c) = refl

at_parameter : (n : ℕ) (ty : Tree) → PutsNone (instantiating (Param n ty))
at_parameter n ty = record { bound = λ d i a. first d i a (nat_lt i d); param = λ d m a. refl; ty_var = λ j. refl }
  where
    second : (d i : ℕ) (a : Tree) (t : Bool) → quantifiers (if t then shift (Param n ty) d 0 else Bound (i - 1) a) ≡ 0
    second d i a true = refl
    second d i a false = refl

    first : (d i : ℕ) (a : Tree) (t : Bool) → quantifiers (if t then Bound i a else (if i == d then shift (Param n ty) d 0 else Bound (i - 1) a)) ≡ 0
    first d i a true = refl
    first d i a false = second d i a (i == d)

pub counted_at : (n : ℕ) (ty b : Tree) → quantifiers (inst b (Param n ty)) ≡ quantifiers b
counted_at n ty b = counted (instantiating (Param n ty)) (at_parameter n ty) 0 b

pub fewer_at : (n : ℕ) (ty b e made : Tree) → e ≡ Two HForall ty b → made ≡ inst b (Param n ty) → quantifiers made < quantifiers e
fewer_at n ty b e made q r =
    let m : quantifiers e ≡ suc (quantifiers b) = ap quantifiers q in
    let k : quantifiers made ≡ quantifiers b = ap quantifiers r ∙ counted_at n ty b in
    omega (arith, m, k)

pub none_counted : (s : List Tree) (n : Node) → ((a b : TermId) → n ≡ Forall a b → ⊥) → quantifiers (node_tree s n) ≡ 0
none_counted s (Forall a b) g = absurd (g a b refl)
none_counted s _ g = refl

-- ---- a branch's equation, opened
pub opened_at : (t : TaskTree) (k n : ℕ) (ty b e made : Tree) → loose ty ≡ 0 → e ≡ Two HForall ty b → made ≡ inst b (Param n ty) → OpensToBranch t k e → OpensToBranch t k made
opened_at t k n ty b e made z q r h =
    let o : OpensToBranch t k (Two HForall ty b) = subst (OpensToBranch t k) q h in
    subst (OpensToBranch t k) (sym r) (λ ws c l. o (Param n ty ∷ ws) ((z, term_no_vars (Param n ty) refl), c) (let m = counted_at n ty b in omega (arith, l, m)))

pub opened_whole : (t : TaskTree) (k : ℕ) (e : Tree) → quantifiers e ≡ 0 → OpensToBranch t k e → IsBranchInstance t k e
opened_whole t k e q h = h [] tt (sym q)
