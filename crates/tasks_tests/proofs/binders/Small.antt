-- Where trees are small, or what is put in is closed, the indices of what is made of them fit.
use Rattle.std.proofs.Common.{◌≡◌, ℕ, zero, suc, ◌<◌, ◌≤◌, [], ◌∷◌, length, get_or, arith}
use Rattle.std.proofs.Math.Nat.{mul-le-mul_left}
use Rattle.trees.specs.declared.Sort.TheVariants.{Term}
use Rattle.trees.specs.Tree.{Tree, size, loose}
use Rattle.trees.specs.Binding.{shift, close, inst, inst_many}
use Rattle.trees.specs.Sorts.{sort_of, WellSorted}
use Rattle.trees.specs.Facts.{IndicesFit}
use Rattle.trees.specs.laws.Sorts.{term_no_vars}
use Rattle.trees.proofs.Laws.{loose_shift, loose_close, loose_inst}
use Rattle.trees.proofs.RaisesNoIndex.{closed_many_fits}
use Rattle.trees.proofs.Sizes.{small_indices, sorted_fits, size_shift, size_close, size_inst}

pub small_shift : (e : Tree) (up from : ℕ) → loose e < 1000 → size e < 1000 → up < 1000 → IndicesFit (shift e up from)
small_shift e up from l s u = small_indices (shift e up from) (omega (arith, loose_shift e up from 1000 (omega arith), size_shift e up from))

pub small_close : (e : Tree) (n : ℕ) → loose e < 1000 → size e < 1000 → IndicesFit (close e n)
small_close e n l s = small_indices (close e n) (omega (arith, loose_close e n 1000 (omega arith), size_close e n))

pub small_inst : (e t : Tree) → loose e < 1000 → size e < 1000 → loose t < 1000 → size t < 1000 → sort_of t ≡ Term → IndicesFit (inst e t)
small_inst e t l s m r k =
    let c : size t ≤ 1000 = omega arith in
    small_indices (inst e t) (omega (arith, loose_inst e t 1000 (term_no_vars t k) (omega arith) (omega arith), size_inst e t, mul-le-mul_left (size e) c))

-- two closed terms put in raise no index
module _ (t u : Tree) (x : loose t ≡ 0) (y : loose u ≡ 0) (v : WellSorted t) (w : WellSorted u) where
  each_fits : (j : ℕ) (d : Tree) → j < length (t ∷ u ∷ []) → IndicesFit (get_or (t ∷ u ∷ []) j d)
  each_fits zero d h = sorted_fits t v
  each_fits (suc zero) d h = sorted_fits u w
  each_fits (suc (suc j)) d h = absurd (omega arith)

  pub two_fit : (e : Tree) → WellSorted e → sort_of t ≡ Term → sort_of u ≡ Term → IndicesFit (inst_many e (t ∷ u ∷ []))
  two_fit e z k q = closed_many_fits e (t ∷ u ∷ []) (sorted_fits e z) ((x, term_no_vars t k), ((y, term_no_vars u q), tt)) each_fits
