-- Lists of types and of trees as a store grows by them.
use Rattle.std.proofs.Common.{◌≡◌, inr, ℕ, zero, suc, ◌+◌, ◌-◌, ◌<◌, ◌≤◌, List, [], ◌∷◌, ◌++◌, length, map, get_or, drop, All, Option, Some, None, refl, sym, ap, subst, ◌∙◌, arith}
use Rattle.std.proofs.lemmas.List.{drop_more}
use Rattle.trees.specs.declared.TermId.{TermId}
use Rattle.trees.specs.declared.Node.TheVariants as node
use Rattle.trees.specs.declared.Sort.{Sort}
use Rattle.trees.specs.declared.Sort.TheVariants as sort
use Rattle.trees.specs.Tree.{Tree, Two, HCell, HArm}
use Rattle.trees.specs.Node.{tree_at, node_tree, Holds, Grows}
use Rattle.trees.specs.Sorts.{Fits, TwoFits, WellSorted, IsList, sort_of, first_sort}
use Rattle.trees.specs.binders.Visits.{HoldTypes}
use Rattle.tasks.specs.Meaning.{trees_at}
use Rattle.tasks.proofs.Growth.{held_later, tree_later}
use Rattle.step_lines.specs.tree_lines.Named.{cells}
use Rattle.step_lines.specs.tree_lines.Made.{IsTreeMade, IsTypeHeld, PairsHeld, branch_at}

pub type_there : (s : List Tree) (ids : List TermId) (i : ℕ) (d : TermId) → i < length ids → HoldTypes s ids → IsTypeHeld s (get_or ids i d)
type_there s [] i d lt h = absurd (omega arith)
type_there s (id ∷ ids) zero d lt h = h.0
type_there s (id ∷ ids) (suc i) d lt h = type_there s ids i d (omega arith) h.1

pub types_held : (s : List Tree) (ids : List TermId) → HoldTypes s ids → All (Holds s) ids
types_held s ids h i d lt = (type_there s ids i d lt h).0

pub types_pushed : (s : List Tree) (ids : List TermId) (id : TermId) → HoldTypes s ids → IsTypeHeld s id → HoldTypes s (ids ++ id ∷ [])
types_pushed s [] id h t = (t, tt)
types_pushed s (x ∷ xs) id h t = (h.0, types_pushed s xs id h.1 t)

pub types_joined : (s : List Tree) (ids more : List TermId) → HoldTypes s ids → HoldTypes s more → HoldTypes s (ids ++ more)
types_joined s [] more h k = k
types_joined s (x ∷ xs) more h k = (h.0, types_joined s xs more h.1 k)

-- one member more, before the others
pub dropped : (ids : List TermId) (i : ℕ) (d : TermId) → 0 < i → i ≤ length ids → drop (i - 1) ids ≡ get_or ids (i - 1) d ∷ drop i ids
dropped ids i d some le =
    let lt : i - 1 < length ids = omega arith in
    let back : i - 1 + 1 ≡ i = omega arith in
    drop_more ids (i - 1) d lt ∙ ap (λ k. get_or ids (i - 1) d ∷ drop k ids) back

pub cells_more : (s0 : List Tree) (ids : List TermId) (i : ℕ) (d : TermId) → 0 < i → i ≤ length ids → cells (trees_at s0 (drop (i - 1) ids)) ≡ Two HCell (tree_at s0 (get_or ids (i - 1) d)) (cells (trees_at s0 (drop i ids)))
cells_more s0 ids i d some le = ap (λ l. cells (trees_at s0 l)) (dropped ids i d some le)

pub type_fits : (a list : Tree) → sort_of a ≡ sort.Kind → IsList sort.Kind list → Fits (Two HCell a list)
type_fits a list e l =
    let P : Sort → Type 0 = λ x. TwoFits HCell x (first_sort a) (sort_of list) (first_sort list) in
    (subst P (sym e) ((λ h. cc), (l.0, l.1)), tt)

module _ (s0 s : List Tree) (g : Grows s0 s) (ids : List TermId) (i : ℕ) (d list : TermId) (some : 0 < i) (le : i ≤ length ids)
    (tree : tree_at s list ≡ cells (trees_at s0 (drop i ids))) where
  -- a type more in a list of types
  pub type_held : HoldTypes s0 ids → IsTypeHeld s (get_or ids (i - 1) d)
  type_held h =
      let lt : i - 1 < length ids = omega arith in
      let t = type_there s0 ids (i - 1) d lt h in
      (held_later s0 s g _ t.0, ap sort_of (tree_later s0 s g _ t.0) ∙ t.1)

  pub list_more : (s' : List Tree) (longer : TermId) → Holds s0 (get_or ids (i - 1) d) → tree_at s' longer ≡ Two HCell (tree_at s (get_or ids (i - 1) d)) (tree_at s list) → tree_at s' longer ≡ cells (trees_at s0 (drop (i - 1) ids))
  list_more s' longer h e = e ∙ ap (λ t. Two HCell t (tree_at s list)) (tree_later s0 s g _ h) ∙ ap (Two HCell (tree_at s0 (get_or ids (i - 1) d))) tree ∙ sym (cells_more s0 ids i d some le)

pub types_sort : (e a b : Tree) → e ≡ Two HCell a b → sort_of a ≡ sort.Kind → IsList sort.Kind e
types_sort e a b is k = rw is (refl, inr (ap Some k))

-- the last members of a list that fits fit
pub cells_part : (s : List Tree) (ids : List TermId) (i : ℕ) → WellSorted (cells (trees_at s ids)) → WellSorted (cells (trees_at s (drop i ids)))
cells_part s ids zero w = w
cells_part s [] (suc i) w = w
cells_part s (x ∷ xs) (suc i) w = cells_part s xs i w.2

-- where a list can't be made longer, the whole list doesn't fit
pub cells_refused : (s0 s s' : List Tree) → Grows s0 s → (ids : List TermId) (i : ℕ) (d list : TermId) → 0 < i → i ≤ length ids → All (Holds s0) ids → tree_at s list ≡ cells (trees_at s0 (drop i ids)) → (o : Option TermId) → o ≡ None → IsTreeMade s' (Some (node_tree s (node.Cell (get_or ids (i - 1) d) list))) o
    → (e : Tree) → Some (cells (trees_at s0 ids)) ≡ Some e → WellSorted e → ⊥
cells_refused s0 s s' g ids i d list some le held tree o none m e is w =
    let lt : i - 1 < length ids = omega arith in
    let cut : Two HCell (tree_at s (get_or ids (i - 1) d)) (tree_at s list) ≡ cells (trees_at s0 (drop (i - 1) ids)) = ap (λ t. Two HCell t (tree_at s list)) (tree_later s0 s g _ (held (i - 1) d lt)) ∙ ap (Two HCell (tree_at s0 (get_or ids (i - 1) d))) tree ∙ sym (cells_more s0 ids i d some le) in
    let whole : cells (trees_at s0 ids) ≡ e = cc in
    let part = cells_part s0 ids (i - 1) (subst WellSorted (sym whole) w) in
    let n : IsTreeMade s' (Some (Two HCell (tree_at s (get_or ids (i - 1) d)) (tree_at s list))) None = subst (IsTreeMade s' (Some (Two HCell (tree_at s (get_or ids (i - 1) d)) (tree_at s list)))) none m in
    n (Two HCell (tree_at s (get_or ids (i - 1) d)) (tree_at s list)) refl (subst WellSorted (sym cut) part)

-- where a list of branches can't be made longer, the whole list doesn't fit
module _ (s0 s : List Tree) (g : Grows s0 s) (ps : List (TermId × TermId)) (i : ℕ) (d : TermId × TermId) (list : TermId) (some : 0 < i) (le : i ≤ length ps) (held : PairsHeld s0 ps)
    (tree : tree_at s list ≡ cells (map (branch_at s0) (drop i ps))) where
  branches_dropped : drop (i - 1) ps ≡ get_or ps (i - 1) d ∷ drop i ps
  branches_dropped =
      let lt : i - 1 < length ps = omega arith in
      let back : i - 1 + 1 ≡ i = omega arith in
      drop_more ps (i - 1) d lt ∙ ap (λ k. get_or ps (i - 1) d ∷ drop k ps) back

  pub branch_held : Holds s (get_or ps (i - 1) d).0 × Holds s (get_or ps (i - 1) d).1
  branch_held =
      let lt : i - 1 < length ps = omega arith in
      let h = held (i - 1) d lt in
      (held_later s0 s g _ h.0, held_later s0 s g _ h.1)

  pub branch_more : Two HCell (branch_at s (get_or ps (i - 1) d)) (tree_at s list) ≡ cells (map (branch_at s0) (drop (i - 1) ps))
  branch_more =
      let lt : i - 1 < length ps = omega arith in
      let h = held (i - 1) d lt in
      let p = tree_later s0 s g (get_or ps (i - 1) d).0 h.0 in
      let b = tree_later s0 s g (get_or ps (i - 1) d).1 h.1 in
      let mk : Tree → Tree → Tree → Tree = λ x y l. Two HCell (Two HArm x y) l in
      ap (λ x. mk x (tree_at s (get_or ps (i - 1) d).1) (tree_at s list)) p ∙ ap (λ y. mk (tree_at s0 (get_or ps (i - 1) d).0) y (tree_at s list)) b ∙ ap (mk (tree_at s0 (get_or ps (i - 1) d).0) (tree_at s0 (get_or ps (i - 1) d).1)) tree
      ∙ sym (ap (λ l. cells (map (branch_at s0) l)) branches_dropped)

branches_part : (s : List Tree) (ps : List (TermId × TermId)) (i : ℕ) → WellSorted (cells (map (branch_at s) ps)) → WellSorted (cells (map (branch_at s) (drop i ps)))
branches_part s ps zero w = w
branches_part s [] (suc i) w = w
branches_part s (p ∷ ps) (suc i) w = branches_part s ps i w.2

pub branches_refused : (s0 s s' : List Tree) → Grows s0 s → (ps : List (TermId × TermId)) (i : ℕ) (d : TermId × TermId) (list : TermId) → 0 < i → i ≤ length ps → PairsHeld s0 ps → tree_at s list ≡ cells (map (branch_at s0) (drop i ps)) → (o : Option TermId) → o ≡ None → IsTreeMade s' (Some (Two HCell (branch_at s (get_or ps (i - 1) d)) (tree_at s list))) o
    → (e : Tree) → Some (cells (map (branch_at s0) ps)) ≡ Some e → WellSorted e → ⊥
branches_refused s0 s s' g ps i d list some le held tree o none m e is w =
    let whole : cells (map (branch_at s0) ps) ≡ e = cc in
    let part = branches_part s0 ps (i - 1) (subst WellSorted (sym whole) w) in
    let n : IsTreeMade s' (Some (Two HCell (branch_at s (get_or ps (i - 1) d)) (tree_at s list))) None = subst (IsTreeMade s' (Some (Two HCell (branch_at s (get_or ps (i - 1) d)) (tree_at s list)))) none m in
    n _ refl (subst WellSorted (sym (branch_more s0 s g ps i d list some le held tree)) part)

-- a branch that doesn't fit, and a list that doesn't with it
pub branch_refused : (s s' : List Tree) (p : TermId × TermId) (list : TermId) (o : Option TermId) → o ≡ None → IsTreeMade s' (Some (branch_at s p)) o → (e : Tree) → Some (Two HCell (branch_at s p) (tree_at s list)) ≡ Some e → WellSorted e → ⊥
branch_refused s s' p list o none m e is w =
    let whole : Two HCell (branch_at s p) (tree_at s list) ≡ e = cc in
    let n : IsTreeMade s' (Some (branch_at s p)) None = subst (IsTreeMade s' (Some (branch_at s p))) none m in
    n (branch_at s p) refl (subst WellSorted (sym whole) w).1
