-- The indices of open terms put into a tree fit where numbers above those of the tree and of each term, added, do.
use Rattle.std.proofs.Common.{◌≡◌, ℕ, zero, suc, ◌+◌, ◌<◌, ◌≤◌, ◌⊎◌, inl, inr, max, List, [], ◌∷◌, length, get_or, arith}
use Rattle.std.proofs.lemmas.Bool.{cases_lt}
use Rattle.trees.specs.declared.TermId.{TermId}
use Rattle.trees.specs.Tree.{Tree, Leaf, One, Two, Three, Head, HBound, HParam, HTyVar, HForall, HExists, HLet, HArm, binders, binders_over, pat_vars, loose, one_loose, size}
use Rattle.trees.specs.Node.{tree_at, trees_at}
use Rattle.trees.specs.Binding.{change, leaf_by, one_by, shifting, instantiating_many, inst_many}
use Rattle.trees.specs.Facts.{IndicesFit, index_fits}
use Rattle.trees.specs.laws.Indices.{shift_below, shift_above}
use Rattle.trees.proofs.Many.{many_below, many_at, many_above, cases_many}
use Rattle.trees.proofs.Sizes.{pat_vars_le}
use Rattle.trees.specs.binders.index_bounds.Bounds.{one_above, above_indices, AreIndicesWithin}
use Rattle.trees.proofs.Sizes.{binders_le as few_binders}
use Rattle.trees.proofs.Sizes.{size_some as some_nodes}

more_above : (h : Head) (n : ℕ) → n ≤ one_above h n
more_above (HBound i) n = omega arith
more_above _ n = omega arith

-- ---- a term put under binders
module _ (up : ℕ) where
  shift_one : (d : ℕ) (h : Head) (a : Tree) → one_above h (above_indices a) + up ≤ 18446744073709551615 → IndicesFit (change (shifting up 0) d a) → IndicesFit (one_by (shifting up 0) d h (change (shifting up 0) d a))
  shift_one d (HBound i) a l k = by (cases_lt i d)
    where
      by : (i < d) ⊎ (d ≤ i) → IndicesFit ((shifting up 0).bound d i (change (shifting up 0) d a))
      by (inl m) = rw (shift_below up 0 d i (omega arith)) (omega arith, k)
      by (inr m) = rw (shift_above up 0 d i (omega arith)) (omega arith, k)
  shift_one d (HParam n) a l k = (tt, k)
  shift_one d _ a l k = (tt, k)

  shift_leaf : (h : Head) → IndicesFit (leaf_by (shifting up 0) h)
  shift_leaf (HTyVar j) = tt
  shift_leaf _ = tt

  shift_fits : (d : ℕ) (e : Tree) → above_indices e + up ≤ 18446744073709551615 → IndicesFit (change (shifting up 0) d e)
  shift_fits d (Leaf h) l = shift_leaf h
  shift_fits d (One h a) l = shift_one d h a l (shift_fits d a (omega (arith, more_above h (above_indices a), l)))
  shift_fits d (Two h a b) l = (shift_fits d a (omega arith), shift_fits (d + binders_over h a) b (omega arith))
  shift_fits d (Three h a b c) l = (shift_fits d a (omega arith), shift_fits d b (omega arith), shift_fits d c (omega arith))

-- ---- terms put in for variables
module _ (ts : List Tree) (m : ℕ) (each : (k : ℕ) (e : Tree) → k < length ts → above_indices (get_or ts k e) + m ≤ 18446744073709551615) where
  put_one : (d : ℕ) (h : Head) (a : Tree) → one_above h (above_indices a) ≤ m → index_fits h → IndicesFit (change (instantiating_many ts) d a) → IndicesFit (one_by (instantiating_many ts) d h (change (instantiating_many ts) d a))
  put_one d (HBound i) a l f k = by (cases_many i d (length ts))
    where
      by : (i < d) ⊎ (((j : ℕ) × ((d ≤ i) × (i + j + 1 ≡ d + length ts))) ⊎ (d + length ts ≤ i)) → IndicesFit ((instantiating_many ts).bound d i (change (instantiating_many ts) d a))
      by (inl n) = rw (many_below ts d i (change (instantiating_many ts) d a) n) (f, k)
      by (inr (inl j)) =
          let x = change (instantiating_many ts) d a in
          let e = each j.0 x (omega (arith, j.1.0, j.1.1)) in
          rw (many_at ts d i j.0 x j.1.0 j.1.1) (shift_fits d 0 (get_or ts j.0 x) (omega (arith, e, j.1.0, l)))
      by (inr (inr n)) = rw (many_above ts d i (change (instantiating_many ts) d a) n) (omega arith, k)
  put_one d (HParam n) a l f k = (tt, k)
  put_one d _ a l f k = (tt, k)

  put_leaf : (h : Head) → IndicesFit (leaf_by (instantiating_many ts) h)
  put_leaf (HTyVar j) = tt
  put_leaf _ = tt

  put_fits : (d : ℕ) (e : Tree) → IndicesFit e → above_indices e ≤ m → IndicesFit (change (instantiating_many ts) d e)
  put_fits d (Leaf h) k l = put_leaf h
  put_fits d (One h a) k l = put_one d h a l k.0 (put_fits d a k.1 (omega (arith, more_above h (above_indices a), l)))
  put_fits d (Two h a b) k l = (put_fits d a k.0 (omega arith), put_fits (d + binders_over h a) b k.1 (omega arith))
  put_fits d (Three h a b c) k l = (put_fits d a k.0 (omega arith), put_fits d b k.1 (omega arith), put_fits d c k.2 (omega arith))

-- terms by their numbers
within_each : (s : List Tree) (room m : ℕ) (ids : List TermId) → room + m ≤ 18446744073709551615 → AreIndicesWithin s room ids → (k : ℕ) (e : Tree) → k < length (trees_at s ids) → above_indices (get_or (trees_at s ids) k e) + m ≤ 18446744073709551615
within_each s room m [] n w k e l = absurd (omega arith)
within_each s room m (id ∷ ids) n w zero e l = omega (arith, n, w.0)
within_each s room m (id ∷ ids) n w (suc k) e l = within_each s room m ids n w.1 k e (omega arith)

pub many_fit : (s : List Tree) (e : Tree) (ids : List TermId) (m room : ℕ) → IndicesFit e → above_indices e ≤ m → room + m ≤ 18446744073709551615 → AreIndicesWithin s room ids → IndicesFit (inst_many e (trees_at s ids))
many_fit s e ids m room f l n w = put_fits (trees_at s ids) m (within_each s room m ids n w) 0 e f l

-- ---- no index of a tree is above the variables and nodes that it has
one_small : (h : Head) (n k s : ℕ) → n ≤ k + s → one_above h n ≤ one_loose h k + (s + 1)
one_small (HBound i) n k s l = omega arith
one_small _ n k s l = omega arith

pub small_above : (e : Tree) → above_indices e ≤ loose e + size e
small_above (Leaf h) = omega arith
small_above (One h a) = one_small h (above_indices a) (loose a) (size a) (small_above a)
small_above (Two h a b) =
    let n : binders_over h a ≤ size a = few_binders h (pat_vars a) (size a) (pat_vars_le a) (some_nodes a) in
    omega (arith, n, small_above a, small_above b)
small_above (Three h a b c) = omega (arith, small_above a, small_above b, small_above c)
