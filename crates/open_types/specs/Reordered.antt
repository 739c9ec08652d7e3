-- Variables in another order: what it keeps, and where each index stays below the greatest number.
use Rattle.std.specs.Prelude.{◌≡◌, ℕ, ◌+◌, List, [], ◌∷◌, get_or, refl}
use Rattle.trees.specs.Tree.{Tree, Leaf, Head, HEnd}
use Rattle.trees.specs.Binding.{change, one_by}
use Rattle.trees.specs.Facts.{PutsSorts, IndicesFit, index_fits}
use Rattle.trees.specs.binders.Depth.{IsDepth}
use Rattle.open_types.specs.Patterns.{reordering}

-- the numbers from n on
abbrev pub IsInOrder : ℕ → List ℕ → Type 0
IsInOrder n [] = Unit {0}
IsInOrder n (p ∷ ps) = (p ≡ n) × IsInOrder (n + 1) ps

-- below so many binders, the index of a variable is below the greatest number in the new order too
abbrev pub HeadFits : List ℕ → ℕ → Head → Type 0
HeadFits places depth h = (d : ℕ) (ty : Tree) → IsDepth depth d → index_fits h → IndicesFit ty
    → IndicesFit (one_by (reordering places) d h ty)

-- and each index of a tree is
abbrev pub ReorderedFits : List ℕ → ℕ → Tree → Type 0
ReorderedFits places depth e =
    (d : ℕ) → IsDepth depth d → IndicesFit (change (reordering places) d e)

-- so it is for trees by number, each below so many binders
abbrev pub AllReorderedFit : List ℕ → List Tree → List (ℕ × ℕ) → Type 0
AllReorderedFit places s [] = Unit {0}
AllReorderedFit places s (k ∷ ks) =
    ReorderedFits places k.1 (get_or s k.0 (Leaf HEnd)) × AllReorderedFit places s ks

-- a look at a tree finds that its indices fit, and those of all that was looked at so far
pub record IsLookedAt (places : List ℕ) (s : List Tree) (depth : ℕ) (e : Tree)
    (seen : List (ℕ × ℕ)) : Type 0 where
  pub fits : ReorderedFits places depth e
  pub others : AllReorderedFit places s seen

pub sorts_reordering : (places : List ℕ) → PutsSorts (reordering places)
sorts_reordering places =
    record { bound = λ _ _ _. refl; param = λ _ _ _. refl; ty_var = λ _. refl }
