-- What is remembered of the indices of trees.
use Rattle.std.proofs.Common.{◌≡◌, ℕ, ◌<◌, ◌≤◌, nat_eq, cond, Bool, true, false, List, length, get_or, Some, refl, sym, ◌∙◌, arith}
use Rattle.std.proofs.lemmas.Bool.Decides.{nat_tests}
use Rattle.indexmap.specs.IndexMap.{IndexMap, get}
use Rattle.trees.specs.declared.TermId.{TermId}
use Rattle.trees.specs.Tree.{Tree, Leaf, HEnd}
use Rattle.trees.specs.Node.{tree_at, Holds}
use Rattle.trees.specs.binders.index_bounds.Bounds.{above_indices, AreIndexBounds}

-- with one more
pub bound_more : {S : Type 0} (s : List Tree) (m n : IndexMap ℕ ℕ S) (e : TermId) (v : ℕ) → AreIndexBounds s m → Holds s e → above_indices (tree_at s e) ≤ v → ((q : ℕ) → get nat_eq n q ≡ cond (nat_eq e.0 q) (Some v) (get nat_eq m q)) → AreIndexBounds s n
bound_more s m n e v h b is up k w found = at (nat_eq e.0 k) refl (sym (up k) ∙ found)
  where
    at : (c : Bool) → nat_eq e.0 k ≡ c → cond c (Some v) (get nat_eq m k) ≡ Some w → (k < length s) × (above_indices (get_or s k (Leaf HEnd)) ≤ w)
    at true same there =
        let number : e.0 ≡ k = grind (arith, nat_tests, same) in
        let value : v ≡ w = cc in
        rw (← number, ← value) (b, is)
    at false same there = h k w there
