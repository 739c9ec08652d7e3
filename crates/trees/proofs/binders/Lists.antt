-- The trees of a list of numbers, and what is put for a variable from them.
use Rattle.std.proofs.Common.{◌≡◌, ℕ, ◌+◌, ◌-◌, ◌<◌, ◌≤◌, List, [], ◌∷◌, zero, suc, length, get_or, refl, ap, ◌∙◌, arith}
use Rattle.trees.specs.declared.TermId.{TermId}
use Rattle.trees.specs.declared.Sort.{Sort}
use Rattle.trees.specs.Tree.{Tree}
use Rattle.trees.specs.Sorts.{WellSorted}
use Rattle.trees.specs.Binding.{Bound, TyVar, shift, instantiating_many}
use Rattle.trees.specs.Node.{tree_at, Holds}
use Rattle.trees.proofs.Many.{many_at, many_above}
use Rattle.trees.proofs.Sizes.{sorted_fits}
use Rattle.trees.specs.binders.Visits.{AreHeldOfSort, HoldTypes, trees_at}
use Rattle.trees.specs.Facts.{IndicesFit}

pub held_at : (sort : Sort) (s : List Tree) (ids : List TermId) (k : ℕ) (d : TermId) → k < length ids → AreHeldOfSort sort s ids → Holds s (get_or ids k d)
held_at sort s [] k d h r = absurd (omega arith)
held_at sort s (id ∷ ids) zero d h r = r.0.0
held_at sort s (id ∷ ids) (suc k) d h r = held_at sort s ids k d (omega arith) r.1

pub length_trees : (s : List Tree) (ids : List TermId) → length (trees_at s ids) ≡ length ids
length_trees s [] = refl
length_trees s (id ∷ ids) = ap suc (length_trees s ids)

pub tree_of : (s : List Tree) (ids : List TermId) (k : ℕ) (d : TermId) (e : Tree) → k < length ids → get_or (trees_at s ids) k e ≡ tree_at s (get_or ids k d)
tree_of s [] k d e h = absurd (omega arith)
tree_of s (id ∷ ids) zero d e h = refl
tree_of s (id ∷ ids) (suc k) d e h = tree_of s ids k d e (omega arith)

module _ (s : List Tree) (ids : List TermId) (depth i : ℕ) (ty : Tree) where
  pub above_list : depth + length ids ≤ i → (instantiating_many (trees_at s ids)).bound depth i ty ≡ Bound (i - length ids) ty
  above_list l =
      let n : length (trees_at s ids) ≡ length ids = length_trees s ids in
      rw (← n) (many_above (trees_at s ids) depth i ty (omega arith))

  pub in_list : (k : ℕ) (t : TermId) → i + k + 1 ≡ depth + length ids → depth ≤ i → (instantiating_many (trees_at s ids)).bound depth i ty ≡ shift (tree_at s (get_or ids k t)) depth 0
  in_list k t at above =
      let n : length (trees_at s ids) ≡ length ids = length_trees s ids in
      many_at (trees_at s ids) depth i k ty above (omega arith) ∙ ap (λ x. shift x depth 0) (tree_of s ids k t ty (omega arith))

-- the type at the number of a type variable, and none beyond
pub type_at : (s : List Tree) (ids : List TermId) (j : ℕ) (t : TermId) → j < length ids → get_or (trees_at s ids) j (TyVar j) ≡ tree_at s (get_or ids j t)
type_at s ids j t h = tree_of s ids j t (TyVar j) h

pub type_past : (s : List Tree) (ids : List TermId) (j k : ℕ) → length ids ≤ j → get_or (trees_at s ids) j (TyVar k) ≡ TyVar k
type_past s [] j k h = refl
type_past s (id ∷ ids) zero k h = absurd (omega arith)
type_past s (id ∷ ids) (suc j) k h = type_past s ids j k (omega arith)

-- the indices of each type fit
pub types_indices : (s : List Tree) (ids : List TermId) → ((id : TermId) → Holds s id → WellSorted (tree_at s id)) → HoldTypes s ids → (j k : ℕ) → IndicesFit (get_or (trees_at s ids) j (TyVar k))
types_indices s [] w h j k = tt
types_indices s (id ∷ ids) w h zero k = sorted_fits (tree_at s id) (w id h.0.0)
types_indices s (id ∷ ids) w h (suc j) k = types_indices s ids w h.1 j k
