-- The indices of open terms put into a tree fit where all are small.
use Rattle.std.proofs.Common.{◌≡◌, ℕ, ◌+◌, ◌<◌, ◌≤◌, ◌⊎◌, inl, inr, List, length, get_or, arith}
use Rattle.trees.specs.Tree.{Tree, Leaf, One, Two, Three, Head, HBound, HTyVar, HForall, HExists, HLet, HArm, binders_over, loose, size}
use Rattle.trees.specs.Binding.{change, leaf_by, shifting, instantiating_many, inst_many}
use Rattle.trees.specs.Facts.{IndicesFit, index_fits}
use Rattle.trees.proofs.Sizes.{small_indices, pat_vars_le}
use Rattle.trees.proofs.Many.{many_below, many_at, many_above, cases_many}
use Rattle.trees.proofs.Laws.{loose_shift}
use Rattle.trees.proofs.Sizes.{size_shift}

-- a term put under so many binders
shifted_fits : (t : Tree) (d : ℕ) → loose t + size t + d < 18446744073709551615 → IndicesFit (change (shifting d 0) 0 t)
shifted_fits t d l = small_indices (change (shifting d 0) 0 t) (let m : loose (change (shifting d 0) 0 t) ≤ loose t + d = loose_shift t d 0 (loose t) (omega arith) in omega (arith, m, size_shift t d 0))

few_binders : (h : Head) (a : Tree) → binders_over h a ≤ size a + 1
few_binders HForall a = omega arith
few_binders HExists a = omega arith
few_binders HLet a = omega arith
few_binders HArm a = omega (arith, pat_vars_le a)
few_binders _ a = omega arith

module _ (ts : List Tree) (most : ℕ) (each : (k : ℕ) (e : Tree) → k < length ts → loose (get_or ts k e) + size (get_or ts k e) + most < 18446744073709551615) where
  one_fits : (d : ℕ) (h : Head) (a : Tree) → d ≤ most → index_fits h → IndicesFit (change (instantiating_many ts) d a) → IndicesFit (change (instantiating_many ts) d (One h a))
  one_fits d (HBound i) a l f k = by (cases_many i d (length ts))
    where
      by : (i < d) ⊎ (((j : ℕ) × ((d ≤ i) × (i + j + 1 ≡ d + length ts))) ⊎ (d + length ts ≤ i)) → IndicesFit ((instantiating_many ts).bound d i (change (instantiating_many ts) d a))
      by (inl m) = rw (many_below ts d i (change (instantiating_many ts) d a) m) (f, k)
      by (inr (inl j)) =
          let e = each j.0 (change (instantiating_many ts) d a) (omega (arith, j.1.0, j.1.1)) in
          rw (many_at ts d i j.0 (change (instantiating_many ts) d a) j.1.0 j.1.1) (shifted_fits (get_or ts j.0 (change (instantiating_many ts) d a)) d (omega (arith, e)))
      by (inr (inr m)) = rw (many_above ts d i (change (instantiating_many ts) d a) m) (omega arith, k)
  one_fits d _ a l f k = (tt, k)

  leaf_fits : (h : Head) → IndicesFit (leaf_by (instantiating_many ts) h)
  leaf_fits (HTyVar j) = tt
  leaf_fits _ = tt

  below_fits : (d : ℕ) (e : Tree) → IndicesFit e → d + size e ≤ most → IndicesFit (change (instantiating_many ts) d e)
  below_fits d (Leaf h) k l = leaf_fits h
  below_fits d (One h a) k l = one_fits d h a (omega arith) k.0 (below_fits d a k.1 (omega arith))
  below_fits d (Two h a b) k l = (below_fits d a k.0 (omega arith), below_fits (d + binders_over h a) b k.1 (omega (arith, few_binders h a)))
  below_fits d (Three h a b c) k l = (below_fits d a k.0 (omega arith), below_fits d b k.1 (omega arith), below_fits d c k.2 (omega arith))

  pub many_small : (e : Tree) → IndicesFit e → size e ≤ most → IndicesFit (inst_many e ts)
  many_small e k l = below_fits 0 e k (omega arith)
