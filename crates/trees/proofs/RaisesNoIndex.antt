-- Closed terms that are put in raise no index, and types never do: where the indices of a tree and of what is put in fit, so
-- do those of the changed tree.
use Rattle.std.proofs.Common.{◌≡◌, ℕ, ◌+◌, ◌<◌, ◌≤◌, ◌⊎◌, inl, inr, List, length, get_or, arith}
use Rattle.std.proofs.lemmas.Bool.{cases_order}
use Rattle.trees.specs.Tree.{Tree, Leaf, One, Two, Three, Head, HBound, HParam, HTyVar, binders_over, loose}
use Rattle.trees.specs.Binding.{Change, change, leaf_by, one_by, TyVar, instantiating, inst, instantiating_many, inst_many, typing, inst_types, AreClosed}
use Rattle.trees.specs.Facts.{IndicesFit, index_fits}
use Rattle.trees.specs.laws.Indices.{inst_below, inst_at, inst_above}
use Rattle.trees.proofs.Laws.{shift_closed}
use Rattle.trees.proofs.Many.{many_below, many_at, many_above, cases_many, closed_at}

-- it puts trees whose indices fit
record PutsFitting (f : Change) : Type 0 where
  bound : (d i : ℕ) (x : Tree) → i < 18446744073709551615 → IndicesFit x → IndicesFit (f.bound d i x)
  param : (d n : ℕ) (x : Tree) → IndicesFit x → IndicesFit (f.param d n x)
  ty_var : (j : ℕ) → IndicesFit (f.ty_var j)

module _ (f : Change) (p : PutsFitting f) where
  leaf_fitting : (h : Head) → IndicesFit (leaf_by f h)
  leaf_fitting (HTyVar j) = p.ty_var j
  leaf_fitting _ = tt

  one_fitting : (d : ℕ) (h : Head) (x : Tree) → index_fits h → IndicesFit x → IndicesFit (one_by f d h x)
  one_fitting d (HBound i) x k l = p.bound d i x k l
  one_fitting d (HParam n) x k l = p.param d n x l
  one_fitting d h x k l = (k, l)

  fitting : (d : ℕ) (e : Tree) → IndicesFit e → IndicesFit (change f d e)
  fitting d (Leaf h) k = leaf_fitting h
  fitting d (One h a) k = one_fitting d h (change f d a) k.0 (fitting d a k.1)
  fitting d (Two h a b) k = (fitting d a k.0, fitting (d + binders_over h a) b k.1)
  fitting d (Three h a b c) k = (fitting d a k.0, fitting d b k.1, fitting d c k.2)

-- a closed term put in
pub closed_inst_fits : (e t : Tree) → IndicesFit e → loose t ≡ 0 → IndicesFit t → IndicesFit (inst e t)
closed_inst_fits e t k c l = fitting (instantiating t) (record { bound = λ d i x m n. at d i x m n (cases_order i d); param = λ d n x m. (tt, m); ty_var = λ j. tt }) 0 e k
  where
    at : (d i : ℕ) (x : Tree) → i < 18446744073709551615 → IndicesFit x → (i ≡ d) ⊎ ((i < d) ⊎ (d < i)) → IndicesFit ((instantiating t).bound d i x)
    at d i x m n (inl q) = rw (inst_at t d i x q, shift_closed t d 0 (omega arith)) l
    at d i x m n (inr (inl q)) = rw (inst_below t d i x q) (m, n)
    at d i x m n (inr (inr q)) = rw (inst_above t d i x q) (omega arith, n)

-- closed terms put in
pub closed_many_fits : (e : Tree) (ts : List Tree) → IndicesFit e → AreClosed ts → ((j : ℕ) (x : Tree) → j < length ts → IndicesFit (get_or ts j x)) → IndicesFit (inst_many e ts)
closed_many_fits e ts k c l = fitting (instantiating_many ts) (record { bound = λ d i x m n. at d i x m n (cases_many i d (length ts)); param = λ d n x m. (tt, m); ty_var = λ j. tt }) 0 e k
  where
    at : (d i : ℕ) (x : Tree) → i < 18446744073709551615 → IndicesFit x → (i < d) ⊎ (((j : ℕ) × ((d ≤ i) × (i + j + 1 ≡ d + length ts))) ⊎ (d + length ts ≤ i)) → IndicesFit ((instantiating_many ts).bound d i x)
    at d i x m n (inl q) = rw (many_below ts d i x q) (m, n)
    at d i x m n (inr (inl q)) =
        let within : q.0 < length ts = omega (arith, q.1.0, q.1.1) in
        let closed : loose (get_or ts q.0 x) ≡ 0 = closed_at ts q.0 x c within in
        rw (many_at ts d i q.0 x q.1.0 q.1.1, shift_closed (get_or ts q.0 x) d 0 (omega arith)) (l q.0 x within)
    at d i x m n (inr (inr q)) = rw (many_above ts d i x q) (omega arith, n)

-- types put in
pub types_fit : (e : Tree) (tys : List Tree) → IndicesFit e → ((j : ℕ) → IndicesFit (get_or tys j (TyVar j))) → IndicesFit (inst_types e tys)
types_fit e tys k l = fitting (typing tys) (record { bound = λ d i x m n. (m, n); param = λ d n x m. (tt, m); ty_var = l }) 0 e k
