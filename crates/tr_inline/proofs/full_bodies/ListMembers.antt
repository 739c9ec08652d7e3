-- Members of lists, by their numbers.
use Rattle.std.proofs.Common.{ℕ, zero, suc, ◌+◌, ◌<◌, List, [], ◌∷◌, length, get_or, All, arith}
use Rattle.trees.specs.declared.TermId.{TermId}
use Rattle.trees.specs.Tree.{Tree, loose, size}
use Rattle.trees.specs.Node.{tree_at, trees_at}
pub use Rattle.evidence.proofs.images.match_terms.Growing.{list_cell as cell_parts}
pub use Rattle.evidence.proofs.images.match_terms.Growing.{held_after as held_push}

-- small trees, by their numbers
pub small_at : (s : List Tree) (most : ℕ) (ids : List TermId) → All (λ id. loose (tree_at s id) + size (tree_at s id) < most) ids → (k : ℕ) (e : Tree) → k < length (trees_at s ids) → loose (get_or (trees_at s ids) k e) + size (get_or (trees_at s ids) k e) < most
small_at s most [] a k e l = absurd (omega arith)
small_at s most (x ∷ xs) a zero e l = a 0 x (omega arith)
small_at s most (x ∷ xs) a (suc k) e l = small_at s most xs (λ j d n. a (suc j) d (omega arith)) k e (omega arith)
