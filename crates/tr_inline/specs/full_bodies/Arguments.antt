-- What is put in for the parameters of a body.
use Rattle.std.specs.Prelude.{◌≡◌, true, List, [], ◌∷◌, length, ◌⊎◌}
use Rattle.trees.specs.Tree.{Tree}
use Rattle.inlining.specs.images.Images.{image}
use Rattle.tr_inline.specs.full_bodies.Least.{HasLargeInstances, is_used}

-- what is put in for arguments are their images, where the variable that an argument is for is used
abbrev pub ArePutFor : (Tree → Tree) → Tree → List Tree → List Tree → Type 0
ArePutFor f body [] [] = Unit {0}
ArePutFor f body (m ∷ ms) (t ∷ ts) =
    (is_used (length ms) body ≡ true → t ≡ image f m) × ArePutFor f body ms ts
ArePutFor f body _ _ = ⊥

-- the image of an argument is large whose variable is used
abbrev pub HasLargeArgument : (Tree → Tree) → Tree → List Tree → Type 0
HasLargeArgument f body [] = ⊥
HasLargeArgument f body (m ∷ ms) =
    ((is_used (length ms) body ≡ true) × HasLargeInstances (image f m)) ⊎ HasLargeArgument f body ms
