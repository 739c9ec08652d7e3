-- The indices of an expression fit where terms are put in for its variables, if all are small.
use Rattle.std.proofs.Common.{◌≡◌, ℕ, ◌+◌, ◌<◌, ◌≤◌, ◌⊎◌, inl, inr, List, length, get_or, arith}
use Rattle.trees.specs.Tree.{Tree, Leaf, One, Two, Three, Head, HBound, HTyVar, HForall, HExists, HLet, HArm, binders_over, size, loose}
use Rattle.trees.specs.Binding.{change, leaf_by, one_by, shift, instantiating_many, inst_many}
use Rattle.trees.specs.Facts.{IndicesFit, index_fits}
use Rattle.trees.proofs.Laws.{loose_shift}
use Rattle.trees.proofs.Many.{many_below, many_at, many_above, cases_many}
use Rattle.trees.proofs.Sizes.{pat_vars_le, size_shift, small_indices}
use Rattle.tr_recursion.specs.recursion_forms.Made.{HaveRoom}

some_nodes : (e : Tree) → 0 < size e
some_nodes (Leaf h) = omega arith
some_nodes (One h a) = omega arith
some_nodes (Two h a b) = omega arith
some_nodes (Three h a b c) = omega arith

few_binders : (h : Head) (a : Tree) → binders_over h a ≤ size a
few_binders HForall a = omega (arith, some_nodes a)
few_binders HExists a = omega (arith, some_nodes a)
few_binders HLet a = omega (arith, some_nodes a)
few_binders HArm a = pat_vars_le a
few_binders _ a = omega arith

shift_fits : (t : Tree) (d m : ℕ) → size t + loose t ≤ m → m + d < 18446744073709551615 → IndicesFit (shift t d 0)
shift_fits t d m h l = small_indices (shift t d 0) (omega (arith, h, l, loose_shift t d 0 (loose t) (omega arith), size_shift t d 0))

module _ (ts : List Tree) (m : ℕ) (room : HaveRoom m ts) where
  at : (d i : ℕ) (x : Tree) → i < 18446744073709551615 → IndicesFit x → m + d < 18446744073709551615 → (i < d) ⊎ (((j : ℕ) × ((d ≤ i) × (i + j + 1 ≡ d + length ts))) ⊎ (d + length ts ≤ i)) → IndicesFit ((instantiating_many ts).bound d i x)
  at d i x l k r (inl c) = rw (many_below ts d i x c) (l, k)
  at d i x l k r (inr (inl c)) = rw (many_at ts d i c.0 x c.1.0 c.1.1) (shift_fits (get_or ts c.0 x) d m (room c.0 x (omega (arith, c.1.0, c.1.1))) r)
  at d i x l k r (inr (inr c)) = rw (many_above ts d i x c) (omega (arith, l), k)

  leaf_fits : (h : Head) → IndicesFit (leaf_by (instantiating_many ts) h)
  leaf_fits (HTyVar j) = tt
  leaf_fits _ = tt

  one_fits : (d : ℕ) (h : Head) (x : Tree) → index_fits h → IndicesFit x → m + d < 18446744073709551615 → IndicesFit (one_by (instantiating_many ts) d h x)
  one_fits d (HBound i) x l k r = at d i x l k r (cases_many i d (length ts))
  one_fits d _ x l k r = (l, k)

  fits : (d : ℕ) (e : Tree) → IndicesFit e → m + d + size e < 18446744073709551615 → IndicesFit (change (instantiating_many ts) d e)
  fits d (Leaf h) k r = leaf_fits h
  fits d (One h a) k r = one_fits d h (change (instantiating_many ts) d a) k.0 (fits d a k.1 (omega (arith, r))) (omega (arith, r))
  fits d (Two h a b) k r = (fits d a k.0 (omega (arith, r)), fits (d + binders_over h a) b k.1 (omega (arith, r, few_binders h a)))
  fits d (Three h a b c) k r = (fits d a k.0 (omega (arith, r)), fits d b k.1 (omega (arith, r)), fits d c k.2 (omega (arith, r)))

pub many_fits : (e : Tree) (ts : List Tree) (m : ℕ) → HaveRoom m ts → IndicesFit e → m + size e < 18446744073709551615 → IndicesFit (inst_many e ts)
many_fits e ts m room k r = fits ts m room 0 e k (omega (arith, r))
