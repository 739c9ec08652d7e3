-- The least numbers above the type variables and the parameters of a tree: what is below them, and what a change leaves there.
use Rattle.std.proofs.Common.{◌≡◌, ℕ, ◌+◌, ◌<◌, ◌≤◌, false, inl, List, refl, ap, ◌∙◌, arith}
use Rattle.std.proofs.lemmas.Bool.Decides.{nat_tests}
use Rattle.trees.specs.declared.Sort.TheVariants.{Kind}
use Rattle.trees.specs.Tree.{Tree, Leaf, One, Two, Three, Head, HBound, HParam, HTyVar, HTyApp, binders_over, loose, one_loose, above_ty_vars, leaf_ty_vars, above_params, one_params}
use Rattle.trees.specs.Binding.{Change, change, leaf_by, one_by, Bound, Param, TyVar, shifting, instantiating, instantiating_many, typing, closing}
use Rattle.trees.specs.Sorts.{WellSorted, sort_of}
use Rattle.trees.specs.Facts.{has_param, is_param, TyVarsBelow, leaf_below}
use Rattle.trees.specs.laws.Changes.{one_loose_le}
use Rattle.trees.specs.laws.Indices.{inst_below, shift_below, close_below}
use Rattle.trees.proofs.Laws.{close_other}
use Rattle.trees.proofs.Many.{many_below}
use Rattle.trees.proofs.Types.{OnlyTypes, only_types}

-- ---- type variables
leaf_vars : (h : Head) (n : ℕ) → leaf_ty_vars h ≤ n → leaf_below h n
leaf_vars (HTyVar j) n l = omega arith
leaf_vars _ n l = tt

-- each type variable is below a number that is not below the least one
pub ty_vars_below : (e : Tree) (n : ℕ) → above_ty_vars e ≤ n → TyVarsBelow n e
ty_vars_below (Leaf h) n l = leaf_vars h n l
ty_vars_below (One h a) n l = ty_vars_below a n l
ty_vars_below (Two h a b) n l = (ty_vars_below a n (omega arith), ty_vars_below b n (omega arith))
ty_vars_below (Three h a b c) n l = (ty_vars_below a n (omega arith), ty_vars_below b n (omega arith), ty_vars_below c n (omega arith))

leaf_vars_above : (h : Head) (n : ℕ) → leaf_below h n → leaf_ty_vars h ≤ n
leaf_vars_above (HTyVar j) n l = omega arith
leaf_vars_above _ n l = omega arith

-- and the other way round
pub below_ty_vars : (e : Tree) (n : ℕ) → TyVarsBelow n e → above_ty_vars e ≤ n
below_ty_vars (Leaf h) n l = leaf_vars_above h n l
below_ty_vars (One h a) n l = below_ty_vars a n l
below_ty_vars (Two h a b) n l = omega (arith, below_ty_vars a n l.0, below_ty_vars b n l.1)
below_ty_vars (Three h a b c) n l = omega (arith, below_ty_vars a n l.0, below_ty_vars b n l.1, below_ty_vars c n l.2)

-- ---- parameters
one_params_le : (h : Head) (k n : ℕ) → one_params h k ≤ n → k ≤ n
one_params_le (HParam m) k n l = omega arith
one_params_le _ k n l = l

other_param : (h : Head) (k n : ℕ) → one_params h k ≤ n → is_param h n ≡ false
other_param (HParam m) k n l = grind (arith, nat_tests)
other_param _ k n l = refl

-- a parameter that is not below the least number does not occur
pub no_param_above : (e : Tree) (n : ℕ) → above_params e ≤ n → has_param e n ≡ false
no_param_above (Leaf h) n l = refl
no_param_above (One h a) n l = rw (other_param h (above_params a) n l) (no_param_above a n (one_params_le h (above_params a) n l))
no_param_above (Two h a b) n l = rw (no_param_above a n (omega arith)) (no_param_above b n (omega arith))
no_param_above (Three h a b c) n l = rw (no_param_above a n (omega arith), no_param_above b n (omega arith)) (no_param_above c n (omega arith))

-- ---- what a change leaves
-- it leaves a variable below `from` and the binders, a parameter below `params`, and a type variable below `types`
pub record KeepsBelow (f : Change) (from params types : ℕ) : Type 0 where
  pub bound : (d i : ℕ) (ty : Tree) → i < from + d → f.bound d i ty ≡ Bound i ty
  pub param : (d n : ℕ) (ty : Tree) → n < params → f.param d n ty ≡ Param n ty
  pub ty_var : (j : ℕ) → j < types → f.ty_var j ≡ TyVar j

module _ (f : Change) (from params types : ℕ) (k : KeepsBelow f from params types) where
  leaf_left : (h : Head) → leaf_ty_vars h ≤ types → leaf_by f h ≡ Leaf h
  leaf_left (HTyVar j) l = k.ty_var j (omega arith)
  leaf_left _ l = refl

  one_left : (d l p : ℕ) (h : Head) (x a : Tree) → x ≡ a → one_loose h l ≤ from + d → one_params h p ≤ params → one_by f d h x ≡ One h a
  one_left d l p (HBound i) x a e b c = k.bound d i x (omega arith) ∙ ap (Bound i) e
  one_left d l p (HParam n) x a e b c = k.param d n x (omega arith) ∙ ap (Param n) e
  one_left d l p h x a e b c = ap (One h) e

  -- a tree below these numbers
  pub change_left : (d : ℕ) (e : Tree) → loose e ≤ from + d → above_params e ≤ params → above_ty_vars e ≤ types → change f d e ≡ e
  change_left d (Leaf h) l p v = leaf_left h v
  change_left d (One h a) l p v =
      one_left d (loose a) (above_params a) h (change f d a) a (change_left d a (one_loose_le h (loose a) (from + d) l) (one_params_le h (above_params a) params p) v) l p
  change_left d (Two h a b) l p v = cc (change_left d a (omega arith) (omega arith) (omega arith), change_left (d + binders_over h a) b (omega arith) (omega arith) (omega arith))
  change_left d (Three h a b c) l p v =
      cc (change_left d a (omega arith) (omega arith) (omega arith), change_left d b (omega arith) (omega arith) (omega arith), change_left d c (omega arith) (omega arith) (omega arith))

pub below_shifting : (up from p v : ℕ) → KeepsBelow (shifting up from) from p v
below_shifting up from p v = record {
  bound = λ d i ty l. ap (λ j. Bound j ty) (shift_below up from d i l);
  param = λ _ _ _ _. refl;
  ty_var = λ _ _. refl;
}

pub below_inst : (t : Tree) (p v : ℕ) → KeepsBelow (instantiating t) 0 p v
below_inst t p v = record { bound = λ d i ty l. inst_below t d i ty (omega arith); param = λ _ _ _ _. refl; ty_var = λ _ _. refl }

pub below_many : (ts : List Tree) (p v : ℕ) → KeepsBelow (instantiating_many ts) 0 p v
below_many ts p v = record { bound = λ d i ty l. many_below ts d i ty (omega arith); param = λ _ _ _ _. refl; ty_var = λ _ _. refl }

pub below_typing : (tys : List Tree) (l p : ℕ) → KeepsBelow (typing tys) l p 0
below_typing tys l p = record { bound = λ _ _ _ _. refl; param = λ _ _ _ _. refl; ty_var = λ j h. absurd (omega arith) }

pub below_closing : (n v : ℕ) → KeepsBelow (closing n) 0 n v
below_closing n v = record {
  bound = λ d i ty l. ap (λ j. Bound j ty) (close_below d i (omega arith));
  param = λ d m ty l. close_other n d m ty (λ e. omega arith);
  ty_var = λ _ _. refl;
}

-- a change that leaves type variables leaves types
pub types_left : (f : Change) → ((j : ℕ) → f.ty_var j ≡ TyVar j) → (d : ℕ) (e : Tree) → OnlyTypes e → change f d e ≡ e
types_left f k d (Leaf h) o = leaf_only h
  where
    leaf_only : (h : Head) → leaf_by f h ≡ Leaf h
    leaf_only (HTyVar j) = k j
    leaf_only _ = refl
types_left f k d (One h a) o = rw o.0.1 (ap (One (HTyApp o.0.0)) (types_left f k d a o.1))
types_left f k d (Two h a b) o = cc (types_left f k d a o.1, types_left f k (d + binders_over h a) b o.2)
types_left f k d (Three h a b c) o = absurd o

pub type_left : (f : Change) → ((j : ℕ) → f.ty_var j ≡ TyVar j) → (d : ℕ) (e : Tree) → WellSorted e → sort_of e ≡ Kind → change f d e ≡ e
type_left f k d e w q = types_left f k d e (only_types e w (inl q))
